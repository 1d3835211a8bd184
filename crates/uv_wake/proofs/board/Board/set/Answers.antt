use Rattle.uv_wake.proofs.ProofNames.{rules, refl}
use Rattle.uv_wake.proofs.SenderSteps.{sends, is_sends}
use Rattle.uv_wake.proofs.board.Board.set.Goals as goal

pub fetch_or-requires : goal.fetch_or-requires
fetch_or-requires c = (search rules, search rules, sends _ _ _ _ c.args.name c.seat.invariant (search rules))

pub invariant_of-seat : goal.invariant_of-seat
invariant_of-seat c = is_sends _ _ (c.fetch_or.ensures.2 c.args.name refl).0

pub returns-clause-order : goal.returns-clause-order
returns-clause-order c = rw (← c.seat.view_is) (c.fetch_or.ensures.2 c.args.name refl).1

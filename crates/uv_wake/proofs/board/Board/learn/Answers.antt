use Rattle.uv_wake.proofs.ProofNames.{rules, sym, subst, loop_of, HasEach}
use Rattle.uv_wake.proofs.LoopSteps.{learns}
use Rattle.uv_wake.proofs.board.Board.learn.Goals as goal

pub load-requires : goal.load-requires
load-requires c = (search rules, search rules, learns _ _ _ _ c.seat.invariant.first c.seat.invariant.knows)

pub returns-clause-each : goal.returns-clause-each
returns-clause-each c = let k = c.load.ensures in subst HasEach (sym (λ i. loop_of (k.2.0 i).0)) k.2.1

use Rattle.uv_wake.proofs.ProofNames.{rules}
use Rattle.uv_wake.proofs.LoopSteps.{joins}
use Rattle.uv_wake.proofs.board.Board.take_back.Goals as goal

pub join_seat-requires : goal.join_seat-requires
join_seat-requires c = (search rules, search rules, search rules, search rules, joins _ _ _ _ _ c.seat.invariant.first (search rules))

use Rattle.uv_wake.proofs.ProofNames.{rules}
use Rattle.uv_wake.proofs.LoopSteps.{splits}
use Rattle.uv_wake.proofs.board.Board.split.Goals as goal

pub split_seat-given-requires : goal.split_seat-given-requires
split_seat-given-requires c = (search rules, search rules, splits _ _ _ c.seat.invariant.first)

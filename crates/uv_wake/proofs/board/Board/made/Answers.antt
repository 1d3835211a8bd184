use Rattle.uv_wake.proofs.ProofNames.{rules}
use Rattle.uv_wake.proofs.LoopSteps.{opens}
use Rattle.uv_wake.proofs.board.Board.made.Goals as goal

pub of_words-requires : goal.of_words-requires
of_words-requires c = opens c.args.names _ (search rules)

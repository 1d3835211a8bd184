use Rattle.uv_alike.proofs.Exact.{next_exact}
use Rattle.uv_alike.proofs.laws.steps_alike.Goals as goal

pub returns : goal.returns
returns x = λ c p s e hides whole exact comes. next_exact c p s exact hides whole e comes

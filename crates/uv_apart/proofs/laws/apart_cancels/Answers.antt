use Rattle.uv_apart.proofs.Cancels as cancels
use Rattle.uv_apart.proofs.laws.apart_cancels.Goals as goal

pub returns : goal.returns
returns c = cancels.apart_cancels

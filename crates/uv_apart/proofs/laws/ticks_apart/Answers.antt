use Rattle.uv_apart.proofs.Kept as kept
use Rattle.uv_apart.proofs.laws.ticks_apart.Goals as goal

pub returns : goal.returns
returns c = kept.ticks_apart

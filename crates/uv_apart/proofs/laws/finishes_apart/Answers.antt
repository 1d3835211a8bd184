use Rattle.uv_apart.proofs.Pool as pool
use Rattle.uv_apart.proofs.laws.finishes_apart.Goals as goal

pub returns : goal.returns
returns c = pool.finishes_apart

use Rattle.uv_apart.proofs.Taken as taken
use Rattle.uv_apart.proofs.laws.apart_goes.Goals as goal

pub returns : goal.returns
returns c = taken.loop_moves

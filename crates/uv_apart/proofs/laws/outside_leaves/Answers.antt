use Rattle.uv_apart.proofs.Taken as taken
use Rattle.uv_apart.proofs.laws.outside_leaves.Goals as goal

pub returns-clause-tick : goal.returns-clause-tick
returns-clause-tick c = taken.tick_leaves

pub returns-clause-take : goal.returns-clause-take
returns-clause-take c = taken.take_leaves

pub returns-clause-finish : goal.returns-clause-finish
returns-clause-finish c = taken.finish_leaves

use Rattle.uv_memory.proofs.Trails.{steps_back, adds_all}
use Rattle.uv_memory.proofs.law.steps_unwind.Goals as goal

pub returns-clause-from_any_length : goal.returns-clause-from_any_length
returns-clause-from_any_length g c old new between a = adds_all old new between a

pub returns-clause-steps : goal.returns-clause-steps
returns-clause-steps g c room i k rs s = steps_back room i k rs s

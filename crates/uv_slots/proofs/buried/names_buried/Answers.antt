use Rattle.uv_slots.proofs.Buries as buries
use Rattle.uv_slots.proofs.buried.names_buried.Goals as goal

pub returns-clause-step : goal.returns-clause-step
returns-clause-step c = buries.names_buried

pub returns-clause-alike : goal.returns-clause-alike
returns-clause-alike c = buries.alike_buried

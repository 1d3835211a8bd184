use Rattle.uv_workers.proofs.Steps as steps
use Rattle.uv_workers.proofs.laws.others_alike.Goals as goal

pub returns-clause-step : goal.returns-clause-step
returns-clause-step c = steps.others

pub returns-clause-alike : goal.returns-clause-alike
returns-clause-alike c = steps.others_alike

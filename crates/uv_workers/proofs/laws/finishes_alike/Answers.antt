use Rattle.uv_workers.proofs.Steps as steps
use Rattle.uv_workers.proofs.laws.finishes_alike.Goals as goal

pub returns-clause-step : goal.returns-clause-step
returns-clause-step c = steps.finishes

pub returns-clause-alike : goal.returns-clause-alike
returns-clause-alike c = steps.finishes_alike

pub returns-clause-line : goal.returns-clause-line
returns-clause-line c = steps.finish_line

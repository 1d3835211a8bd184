use Rattle.uv_names.proofs.Counted as steps
use Rattle.uv_names.proofs.laws.counts_capped.Goals as goal

pub returns-clause-step : goal.returns-clause-step
returns-clause-step c = steps.counts_capped

pub returns-clause-alike : goal.returns-clause-alike
returns-clause-alike c = steps.alike_by_counts

use Rattle.uv_names.proofs.Stales as stales
use Rattle.uv_names.proofs.laws.names_staled.Goals as goal

pub returns-clause-step : goal.returns-clause-step
returns-clause-step c = stales.names_staled

pub returns-clause-alike : goal.returns-clause-alike
returns-clause-alike c = stales.alike_by_names

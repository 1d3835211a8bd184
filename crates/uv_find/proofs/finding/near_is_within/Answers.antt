use Rattle.uv_find.proofs.Within.{near_is_within}
use Rattle.uv_find.proofs.finding.near_is_within.Goals as goal

pub returns : goal.returns
returns c = near_is_within

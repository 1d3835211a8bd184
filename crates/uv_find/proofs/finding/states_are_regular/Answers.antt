use Rattle.uv_find.proofs.Alike.{are_regular}
use Rattle.uv_find.proofs.finding.states_are_regular.Goals as goal

pub returns : goal.returns
returns c = are_regular

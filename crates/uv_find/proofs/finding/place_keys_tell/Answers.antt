use Rattle.uv_find.proofs.Results.{keys_tell}
use Rattle.uv_find.proofs.finding.place_keys_tell.Goals as goal

pub returns : goal.returns
returns c = keys_tell

use Rattle.uv_key.proofs.Telling as telling
use Rattle.uv_key.proofs.numbers_tell.Goals as goal

pub returns : goal.returns
returns c = telling.numbers_tell

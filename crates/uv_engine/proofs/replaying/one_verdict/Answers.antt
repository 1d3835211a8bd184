use Rattle.uv_engine.proofs.OneVerdict.{has_one}
use Rattle.uv_engine.proofs.replaying.one_verdict.Goals as goal

pub returns : goal.returns
returns c = record { one = has_one }

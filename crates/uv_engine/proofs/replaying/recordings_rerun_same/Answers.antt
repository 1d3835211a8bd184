use Rattle.uv_engine.proofs.OneRecording.{says_only_same}
use Rattle.uv_engine.proofs.Remade.{says_same}
use Rattle.uv_engine.proofs.replaying.recordings_rerun_same.Goals as goal

pub returns-clause-same : goal.returns-clause-same
returns-clause-same c = says_same

pub returns-clause-only : goal.returns-clause-only
returns-clause-only c = says_only_same

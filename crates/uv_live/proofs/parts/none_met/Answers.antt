use Rattle.uv_live.proofs.Meeting.{no_event}
use Rattle.uv_live.proofs.parts.none_met.Goals as goal

pub returns-clause-none : goal.returns-clause-none
returns-clause-none c = no_event

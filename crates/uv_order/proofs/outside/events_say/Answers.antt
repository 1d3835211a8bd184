use Rattle.uv_order.proofs.FromOutside.{says_event}
use Rattle.uv_order.proofs.outside.events_say.Goals as goal

pub returns : goal.returns
returns c = says_event

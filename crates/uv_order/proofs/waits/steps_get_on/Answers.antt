use Rattle.uv_order.proofs.GettingOn.{gets_on}
use Rattle.uv_order.proofs.waits.steps_get_on.Goals as goal

pub returns : goal.returns
returns c = gets_on

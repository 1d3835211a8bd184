use Rattle.uv_order.proofs.Waiting.{waited}
use Rattle.uv_order.proofs.waits.loop_goes_on.Goals as goal

pub returns : goal.returns
returns c = waited

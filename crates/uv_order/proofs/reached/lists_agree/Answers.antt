use Rattle.uv_order.proofs.Reaching.{reached}
use Rattle.uv_order.proofs.reached.lists_agree.Goals as goal

pub returns : goal.returns
returns c = reached

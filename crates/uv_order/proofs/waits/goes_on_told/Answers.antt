use Rattle.uv_order.proofs.Leading.{goes_on}
use Rattle.uv_order.proofs.waits.goes_on_told.Goals as goal

pub returns : goal.returns
returns c = goes_on

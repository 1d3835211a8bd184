use Rattle.uv_order.proofs.DueTold.{dues}
use Rattle.uv_order.proofs.dues.dues_told.Goals as goal

pub returns : goal.returns
returns c = dues

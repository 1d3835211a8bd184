use Rattle.uv_order.proofs.Coming.{io_comes}
use Rattle.uv_order.proofs.outside.io_comes.Goals as goal

pub returns : goal.returns
returns c = io_comes

use Rattle.uv_order.proofs.Documents.{told}
use Rattle.uv_order.proofs.told.handles_told.Goals as goal

pub returns : goal.returns
returns c = told

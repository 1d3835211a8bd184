use Rattle.uv_inquiry.proofs.Names.{arith}
use Rattle.uv_inquiry.proofs.Inquiries.{not_asked}
use Rattle.uv_inquiry.proofs.draft.read_asking.Goals as goal

pub returns-in-None : goal.returns-in-None
returns-in-None c = grind (arith, not_asked)

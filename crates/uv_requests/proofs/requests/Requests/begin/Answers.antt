use Rattle.uv_requests.proofs.Collected.{begin_done}
use Rattle.uv_requests.proofs.requests.Requests.begin.Goals as goal

pub returns-clause-begun : goal.returns-clause-begun
returns-clause-begun g c = begin_done c.requires.work c.requires.empty c.splice.ensures.spliced

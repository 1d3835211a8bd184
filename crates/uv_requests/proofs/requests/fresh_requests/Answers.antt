use Rattle.uv_requests.proofs.Fresh.{fresh_work}
use Rattle.uv_requests.proofs.requests.fresh_requests.Goals as goal

pub returns : goal.returns
returns g c = fresh_work g.T.HoldsWork.held_request

use Rattle.uv_requests.proofs.Holding.{waiting_is_held}
use Rattle.uv_requests.proofs.requests.Requests.next_work.Goals as goal

pub unreachable-unreachable : goal.unreachable-unreachable
unreachable-unreachable g c = waiting_is_held c.requires c.in-Some.ensures.some c.in-Err.ensures.none

pub unreachable-requires : goal.unreachable-requires
unreachable-requires g c = waiting_is_held c.requires c.in-Some.ensures.some c.in-Err.ensures.none

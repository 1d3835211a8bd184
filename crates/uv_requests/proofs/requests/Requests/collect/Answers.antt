use Rattle.uv_requests.proofs.Holding.{yet_is_held}
use Rattle.uv_requests.proofs.requests.Requests.collect.Goals as goal

pub unreachable-unreachable : goal.unreachable-unreachable
unreachable-unreachable g c = yet_is_held c.requires c.in-Some.ensures.some c.in-Err.ensures.none

pub unreachable-requires : goal.unreachable-requires
unreachable-requires g c = yet_is_held c.requires c.in-Some.ensures.some c.in-Err.ensures.none

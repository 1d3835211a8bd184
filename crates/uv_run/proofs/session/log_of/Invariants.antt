use Rattle.uv_run.proofs.Names.{◌≡◌, take, pool_events, those, seen_by}
use Rattle.uv_run.proofs.session.log_of.Given as goal

-- the events of the steps so far
abbrev pub invariant-steps : goal.invariant-steps
invariant-steps g l =
    l.log.events.items ≡ pool_events l.session.program (those (take l.n (seen_by l.session.program l.session.standing)))

use Rattle.uv_session.proofs.Names.{◌-◌, Result, Fault, Stop, Shown, RunsTo}
use Rattle.uv_session.proofs.session.Session.run_to_break.Given as goal

-- however the rest of the run ends, the whole run ends so
abbrev pub invariant-steps : goal.invariant-steps
invariant-steps g l = (r : Result Stop Fault) (t : Shown) → RunsTo l.event (l.times - l.counter) l.self r t →
    RunsTo l.event l.times l.initial.self r t

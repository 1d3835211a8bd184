use Rattle.uv_session.proofs.Names.{◌≡◌, ◌-◌, take, seen_by}
use Rattle.uv_session.proofs.Traces.{those}
use Rattle.uv_session.proofs.session.Session.trace.Given as goal

-- the lines of the steps before this one
abbrev pub invariant-loop-step : goal.invariant-loop-step
invariant-loop-step g l = l.trace.items ≡ those (take (l.step - 1) (seen_by l.self.program l.self.standing))

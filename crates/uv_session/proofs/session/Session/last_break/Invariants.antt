use Rattle.uv_session.proofs.Names.{◌≤◌, length, NoneFrom}
use Rattle.uv_session.proofs.session.Session.last_break.Given as goal

-- none from this step on matches
abbrev pub invariant-back : goal.invariant-back
invariant-back g l = record {
  low : l.step ≤ length l.self.standing;
  none : NoneFrom l.self l.step;
}

abbrev pub decreases-back : goal.decreases-back
decreases-back g l = l.step

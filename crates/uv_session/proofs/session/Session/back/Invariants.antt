use Rattle.uv_session.proofs.Names.{◌≡◌, ◌≤◌, length, moved_back}
use Rattle.uv_session.proofs.session.Session.back.Given as goal

abbrev pub invariant-loop : goal.invariant-loop
invariant-loop g l = record {
  few : l.n ≤ length l.initial.self.standing;
  moved : l.self ≡ moved_back l.counter l.initial.self;
}

use Rattle.uv_session.proofs.Names.{◌≡◌, ◌≤◌, length, moved_forward}
use Rattle.uv_session.proofs.session.Session.forward.Given as goal

abbrev pub invariant-loop : goal.invariant-loop
invariant-loop g l = record {
  few : l.n ≤ length l.initial.self.taken_back;
  moved : l.self ≡ moved_forward l.counter l.initial.self;
}

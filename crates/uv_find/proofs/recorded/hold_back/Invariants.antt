use Rattle.uv_find.proofs.Names.{◌≡◌, ◌++◌, drop, held_back, Stands, state_in}
use Rattle.uv_find.proofs.recorded.hold_back.Given as goal

abbrev pub invariant-sources : goal.invariant-sources
invariant-sources g l = record {
  same : Stands l.fn.session l.fn.session.standing l.session;
  held : l.held.items ++ held_back l.fn.session.program l.recorded (state_in l.fn.session) l.kept l.count (drop l.source-index l.left)
      ≡ held_back l.fn.session.program l.recorded (state_in l.fn.session) l.kept l.count l.left;
}

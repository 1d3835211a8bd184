use Rattle.uv_find.proofs.Names.{◌≡◌, Some, drop, spare_behind, Stands, state_in}
use Rattle.uv_find.proofs.recorded.spare_behind.Given as goal

abbrev pub invariant-sources : goal.invariant-sources
invariant-sources g l = record {
  same : Stands l.fn.session l.fn.session.standing l.session;
  spare : spare_behind l.fn.session.program l.recorded (state_in l.fn.session) l.kept l.count (drop l.source-index l.left) (Some l.more)
      ≡ spare_behind l.fn.session.program l.recorded (state_in l.fn.session) l.kept l.count l.left (Some l.fn.spare);
}

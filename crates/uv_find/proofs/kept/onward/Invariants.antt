use Rattle.uv_find.proofs.Names.{◌≡◌, ◌+◌, drop, onward}
use Rattle.uv_find.proofs.kept.onward.Given as goal

abbrev pub invariant-events : goal.invariant-events
invariant-events l = record {
  next : l.next ≡ l.fn.first + l.event-index;
  same : onward (drop l.event-index l.recorded) l.next l.fn.spare ≡ onward l.recorded l.fn.first l.fn.spare;
}

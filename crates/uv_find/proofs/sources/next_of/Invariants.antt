use Rattle.uv_find.proofs.Names.{◌≡◌, ◌+◌, drop, next_of}
use Rattle.uv_find.proofs.sources.next_of.Given as goal

abbrev pub invariant-events : goal.invariant-events
invariant-events l = record {
  number : l.number ≡ l.fn.first + l.came-index;
  same : next_of l.fn.event (drop l.came-index l.recorded) l.number ≡ next_of l.fn.event l.recorded l.fn.first;
}

-- The order of timers (uv_timer_t): by due time, and then by the number that the start drew.
use Rattle.std.specs.Ordering.{ordering_then, nat_cmp}
use Rattle.std.specs.declared.cmp.Ordering.{Ordering}
use Rattle.uv_ids.specs.declared.due.Due.{Due}

abbrev pub due_cmp : Due → Due → Ordering
due_cmp a b = ordering_then (nat_cmp a.at b.at) (nat_cmp a.start b.start)

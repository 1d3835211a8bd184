use Rattle.uv_find.proofs.Names.{◌≡◌, drop, max, takes_end}
use Rattle.uv_find.proofs.forgetting.takes_end.Given as goal

abbrev pub invariant-times : goal.invariant-times
invariant-times l = max l.end (takes_end (drop l.time-index l.takes)) ≡ takes_end l.takes

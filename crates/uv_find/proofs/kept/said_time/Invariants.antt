use Rattle.uv_find.proofs.Names.{◌≡◌, drop, said_time}
use Rattle.uv_find.proofs.kept.said_time.Given as goal

abbrev pub invariant-times : goal.invariant-times
invariant-times l = said_time (drop l.time-index l.takes) l.fn.name l.fn.call ≡ said_time l.takes l.fn.name l.fn.call

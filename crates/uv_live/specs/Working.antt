-- Whether the pool has work for its workers.
use Rattle.std.specs.Prelude.{ℕ, ◌+◌, Bool, false, List, Option, Some, None, length, nat_lt}
use Rattle.uv_work.specs.Pool.{Pool, busy, replay}
use Rattle.uv_work.specs.declared.event.PoolEvent.{PoolEvent}

-- how many requests wait for a worker, or are run by one
abbrev pub open_in : Pool → ℕ
open_in p = length p.waiting + busy p.running

abbrev pub has_work : Option Pool → Bool
has_work None = false
has_work (Some p) = nat_lt 0 (open_in p)

-- after these events a request waits for a worker, or one runs it
abbrev pub is_at_work : ℕ → List PoolEvent → Bool
is_at_work workers events = has_work (replay workers events)

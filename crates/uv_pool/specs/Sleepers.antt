-- The workers that sleep until there is a job for them.
use Rattle.std.specs.Prelude.{◌≡◌, ◌+◌, ◌-◌, ◌^◌, ◌<◌, min, true, false}
use Rattle.uv_pool.specs.declared.sleepers.Sleepers.{Sleepers}

abbrev pub none_asleep : Sleepers
none_asleep = record { asleep = 0; called = false }

-- one more sleeps (a count of 64 bits)
abbrev pub dozed : Sleepers → Sleepers
dozed s = record s { asleep = min (s.asleep + 1) (2 ^ 64 - 1) }

-- one comes back, called or not: nobody counts as on its way then
abbrev pub returned : Sleepers → Sleepers
returned s = record { asleep = s.asleep - 1; called = false }

-- one was called, and counts as on its way until the next one comes back
abbrev pub summoned : Sleepers → Sleepers
summoned s = record s { called = true }

-- somebody sleeps, and nobody is on its way
abbrev pub IsCallable : Sleepers → Type 0
IsCallable s = (0 < s.asleep) × (s.called ≡ false)

-- What is counted of a session in a live run.
use Rattle.std.specs.Prelude.{◌≡◌, ◌<◌, ℕ, List, Bool, true, false, length, slice_index}
use Rattle.uv_work.specs.declared.event.PoolEvent.{PoolEvent}
use Rattle.uv_work.specs.declared.event.PoolEvent.TheVariants as event

abbrev pub is_queue : PoolEvent → Bool
is_queue (event.Queue id) = true
is_queue _ = false

-- a request is open no more: it was finished, or cancelled
abbrev pub is_end : PoolEvent → Bool
is_end (event.Finish k id) = true
is_end (event.Cancel id) = true
is_end _ = false

-- a count for each name
pub record AreCounts (names : ℕ) (count : ℕ → ℕ) (counts : List ℕ) : Type 0 where
  pub long : length counts ≡ names
  pub each : (v : ℕ) → v < names → slice_index counts v ≡ count v

-- The limits that several crates keep.
use Rattle.std.specs.Prelude.{ℕ}

-- a thread pool has no more workers, as in libuv
abbrev pub MOST_WORKERS : ℕ
MOST_WORKERS = 1024

-- a session has no more steps, and a pool's log no more entries
abbrev pub MOST_STEPS : ℕ
MOST_STEPS = 16777216

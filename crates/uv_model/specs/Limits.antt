-- The limits of the loop's numbers.
use Rattle.std.specs.Prelude.{ℕ, ◌^◌}

-- the latest time that the clock may show, in ms (own)
abbrev pub LATEST : ℕ
LATEST = 2 ^ 62

-- the longest poll, in ms: libuv hands the system's poll a number of 31 bits (own)
abbrev pub LONGEST_POLL : ℕ
LONGEST_POLL = 2147483647

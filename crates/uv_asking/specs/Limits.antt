-- The limits of what is asked (own).
use Rattle.std.specs.Prelude.{ℕ}

-- the most that a count says: times of an offer, calls, states
abbrev pub MOST_COUNT : ℕ
MOST_COUNT = 4294967295

-- the most ms that a line names, 2^62
abbrev pub MOST_MS : ℕ
MOST_MS = 4611686018427387904

-- the highest number of a worker
abbrev pub MOST_WORKER : ℕ
MOST_WORKER = 65535

-- the most lines `may`
abbrev pub MOST_OFFERS : ℕ
MOST_OFFERS = 256

-- how many states are kept where no line says it
abbrev pub DEFAULT_STATES : ℕ
DEFAULT_STATES = 10000000

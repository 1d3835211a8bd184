-- The limits of scripts (own).
use Rattle.std.specs.Prelude.{ℕ}

-- the most slots of an arena
abbrev pub MOST_SLOTS : ℕ
MOST_SLOTS = 16777215

-- the most names of a script
abbrev pub MOST_NAMES : ℕ
MOST_NAMES = 65535

-- the most lines of a script that count
abbrev pub MOST_LINES : ℕ
MOST_LINES = 1048575

-- the numbers of senders' threads are below this
abbrev pub MOST_SENDERS : ℕ
MOST_SENDERS = 64

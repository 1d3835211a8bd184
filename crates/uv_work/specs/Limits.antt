-- The limits of tasks (own).
use Rattle.std.specs.Prelude.{ℕ}

-- the most rounds
abbrev pub MOST_ROUNDS : ℕ
MOST_ROUNDS = 1000

-- the most bytes of a text
abbrev pub LONGEST_TEXT : ℕ
LONGEST_TEXT = 64

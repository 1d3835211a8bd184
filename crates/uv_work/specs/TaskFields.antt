-- What the fields of a task keep.
use Rattle.std.specs.Prelude.{◌≡◌, ℕ, ◌-◌, ◌≤◌, List, ◌++◌, length, take, replicate}
use Rattle.uv_work.specs.Limits.{LONGEST_TEXT, MOST_ROUNDS}

-- a task has 1 to 1000 rounds (own)
pub record IsRoundCount (rounds : ℕ) : Type 0 where
  pub some : 1 ≤ rounds
  pub few : rounds ≤ MOST_ROUNDS

-- a text, and then zeros, 64 bytes in all
abbrev pub padded : List ℕ → List ℕ
padded text = text ++ replicate (LONGEST_TEXT - length text) 0

-- the bytes are a text of this length, padded
pub record IsPadded (len : ℕ) (bytes : List ℕ) : Type 0 where
  pub fits : len ≤ LONGEST_TEXT
  pub whole : length bytes ≡ LONGEST_TEXT
  pub text : bytes ≡ padded (take len bytes)

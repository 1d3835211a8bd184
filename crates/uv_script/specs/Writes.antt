-- What a call writes at the end of a text.
use Rattle.std.specs.Prelude.{◌≡◌, ℕ, List, ◌++◌, Result, Ok, Err}

-- a beginning of `more` was written behind `old`, which is kept
pub record CutShort (old more new : List ℕ) : Type 0 where
  pub part : List ℕ
  pub rest : List ℕ
  pub whole : part ++ rest ≡ more
  pub written : new ≡ old ++ part

-- all of `more` was written behind `old`; after a fault, a beginning of it
abbrev pub Writes : {T E : Type 0} → Result T E → List ℕ → List ℕ → List ℕ → Type 0
Writes (Ok _) old more new = new ≡ old ++ more
Writes (Err _) old more new = CutShort old more new

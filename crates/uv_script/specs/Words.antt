-- The fields of a line: names and numbers.
use Rattle.std.specs.Prelude.{◌≡◌, ℕ, ◌<◌, ◌≤◌, ◌^◌, ◌⊎◌, List, ◌∷◌, length, All, Some, slice_get, decimal}
use Rattle.uv_ids.specs.declared.id.Var.{Var}

-- a byte from `a` to `z`
abbrev pub IsLetter : ℕ → Type 0
IsLetter b = (97 ≤ b) × (b ≤ 122)

-- a byte from `0` to `9`
abbrev pub IsDigit : ℕ → Type 0
IsDigit b = (48 ≤ b) × (b ≤ 57)

-- a name: a lower case letter, and then up to 31 lower case letters, digits or `_`
pub record IsName (name : List ℕ) : Type 0 where
  pub first : ℕ
  pub rest : List ℕ
  pub is : name ≡ first ∷ rest
  pub letter : IsLetter first
  pub others : All (λ b. IsLetter b ⊎ (IsDigit b ⊎ (b ≡ 95))) rest
  pub short : length rest ≤ 31

-- a number is written in decimal digits with no zero in front, and is less than 2^64
pub record IsNumber (text : List ℕ) (n : ℕ) : Type 0 where
  pub is : text ≡ decimal n
  pub fits : n < 2 ^ 64

-- the number of a declared name is its place among the names
abbrev pub IsDeclared : List (List ℕ) → List ℕ → Var → Type 0
IsDeclared names name v = slice_get names v.0 ≡ Some name

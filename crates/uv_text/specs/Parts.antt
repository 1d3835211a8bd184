-- A text in parts.
use Rattle.std.specs.Prelude.{ℕ, zero, suc, List, [], ◌++◌}

-- so many parts, from one on, where this is the text of each by its number
abbrev pub parts_from : (ℕ → List ℕ) → ℕ → ℕ → List ℕ
parts_from part n zero = []
parts_from part n (suc k) = part n ++ parts_from part (suc n) k

-- so many parts, from the first one on
unfoldable pub in_parts : (ℕ → List ℕ) → ℕ → List ℕ
in_parts part k = parts_from part 0 k

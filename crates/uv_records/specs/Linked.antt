-- Slots that follow one another on a list.
use Rattle.std.specs.Prelude.{◌≡◌, ◌⊎◌, ℕ, List, [], ◌∷◌, Option, Some, None}
use Rattle.uv_records.specs.declared.lists.Ends.{Ends}

-- the first slot of a list, or what follows it where it is empty
abbrev pub first : List ℕ → Option ℕ → Option ℕ
first [] n = n
first (x ∷ xs) n = Some x

-- the last slot of a list, or what precedes it where it is empty
abbrev pub last : Option ℕ → List ℕ → Option ℕ
last p [] = p
last p (x ∷ xs) = last (Some x) xs

abbrev pub ends_of : List ℕ → Ends
ends_of xs = record { head = first xs None; tail = last None xs }

-- x is one of them
abbrev pub IsIn : ℕ → List ℕ → Type 0
IsIn x [] = ⊥
IsIn x (y ∷ ys) = (x ≡ y) ⊎ IsIn x ys

-- How the items of a row lie in its pieces.
use Rattle.std.specs.Prelude.{◌≡◌, ℕ, ◌*◌, ◌≤◌, List, [], ◌∷◌, ◌++◌, length, take, drop, vec_capacity}
use Rattle.core.specs.Int.{div_ceil}
use Rattle.uv_raw.specs.Row.{Row, row}
use Rattle.uv_raw.specs.Pieced.{Pieced, PIECE}
use Rattle.uv_raw.specs.declared.pieces.Pieces.TheInside.{Inside}

module _ {X : Type 0} where
  -- the items of all pieces, in order
  abbrev pub flat : List (Row X) → List X
  flat [] = []
  flat (r ∷ rs) = r.items ++ flat rs

  -- each piece can hold n items, and is full before the next has any
  abbrev pub IsLaid : ℕ → List (Row X) → List X → Type 0
  IsLaid n [] xs = xs ≡ []
  IsLaid n (r ∷ rs) xs = (r ≡ row (take n xs) n) × IsLaid n rs (drop n xs)

  abbrev pub pieced_of : Inside X → Pieced X
  pieced_of p = record { row = row (flat p.pieces.items) p.capacity; room = PIECE * length p.pieces.items }

  pub record IsPieced (p : Inside X) : Type 0 where
    pub laid : IsLaid PIECE p.pieces.items (flat p.pieces.items)
    pub size : p.len ≡ length (flat p.pieces.items)
    pub within : p.len ≤ p.capacity
    -- the table has a place for each piece that there may be, and no more
    pub table : vec_capacity p.pieces ≡ div_ceil p.capacity PIECE

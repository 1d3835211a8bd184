-- How many slots hold something, and how many something that pends.
use Rattle.std.specs.Prelude.{◌≡◌, ℕ, ◌+◌, ◌<◌, ◌^◌, Bool, List, [], ◌∷◌, Option, is_some}
use Rattle.uv_raw.specs.Row.{Row}
use Rattle.uv_records.specs.Count.{one_if, pends_in}
use Rattle.uv_arena.specs.declared.links.Cell.{Cell}

module _ {X : Type 0} (such : Option X → Bool) where
  -- whether a cell's slot holds such a thing, as a number
  abbrev pub one_of : Cell X → ℕ
  one_of c = one_if (such c.slot.content)

  -- how many of these cells do
  abbrev pub count_of : List (Cell X) → ℕ
  count_of [] = 0
  count_of (c ∷ cs) = one_of c + count_of cs

-- of the cells in a row so many hold something, and so many something that pends; there is room for fewer than 2^32
pub record AreCounted {X : Type 0} (pends : X → Bool) (cells : Row (Cell X)) (h p : ℕ) : Type 0 where
  pub few : cells.capacity < 2 ^ 32
  pub held : h ≡ count_of is_some cells.items
  pub pending : p ≡ count_of (pends_in pends) cells.items

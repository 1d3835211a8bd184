-- What holds of the fields of a block.
use Rattle.std.specs.Prelude.{◌≡◌, ◌≤◌, length}
use Rattle.uv_raw.specs.Row.{Row, row, firsts, Filled}
use Rattle.uv_raw.specs.declared.raw_row.RawRow.TheInside.{Inside}

module _ {X : Type 0} where
  abbrev pub row_of : Inside X → Row X
  row_of b = row (firsts b.len b.room.places) b.capacity

  pub record IsRow (b : Inside X) : Type 0 where
    pub filled : Filled b.len b.room.places
    pub size : b.len ≡ length (firsts b.len b.room.places)
    pub within : b.len ≤ b.capacity
    pub capacity : b.capacity ≡ length b.room.places

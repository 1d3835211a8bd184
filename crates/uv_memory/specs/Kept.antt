-- What callers see of the records of steps in a row.
use Rattle.std.specs.Prelude.{ℕ, List}
use Rattle.uv_memory.specs.Record.{Record}

-- the records, the first step's first, and for how many more there is room, whatever their changes
pub record Kept (P : Type 0) : Type 0 where
  pub records : List (Record P)
  pub room : ℕ

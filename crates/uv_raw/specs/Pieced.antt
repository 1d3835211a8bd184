-- What a contract sees of a row in pieces.
use Rattle.std.specs.Prelude.{ℕ, ◌+◌, nat_lt, if◌then◌else◌, length}
use Rattle.uv_raw.specs.Row.{Row}

-- the row, and its room: how many items the pieces that are there can hold, also past the capacity
pub record Pieced (X : Type 0) : Type 0 where
  pub row : Row X
  pub room : ℕ

-- how many items a piece holds
abbrev pub PIECE : ℕ
PIECE = 1024

-- the room once the piece of the next item is there
abbrev pub room_after : {X : Type 0} → Pieced X → ℕ
room_after p = if nat_lt (length p.row.items) p.room then p.room else p.room + PIECE

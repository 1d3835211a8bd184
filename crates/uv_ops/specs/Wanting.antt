-- An op that takes a slot wants memory.
use Rattle.std.specs.Prelude.{◌≡◌}
use Rattle.uv_arena.specs.Calls.{LacksPiece}
use Rattle.uv_model.specs.declared.place.Place.{Place}
use Rattle.uv_memory.specs.declared.memory.Memory.{Memory}
use Rattle.uv_memory.specs.Image.{held}

-- the piece of the slot that would be taken isn't there, and nothing changed: neither the memory nor for how many slots there are pieces
abbrev pub WantsPiece : Memory Place → Memory Place → Type 0
WantsPiece old new = LacksPiece old.slots × (held new ≡ held old) × (new.slots.room ≡ old.slots.room)

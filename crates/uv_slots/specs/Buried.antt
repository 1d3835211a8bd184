-- A state whose names forget in which slot that was which is gone. Whatever else a state has stays, and so does each name of what is there
-- still.
use Rattle.std.specs.Prelude.{◌≡◌, ℕ, ◌+◌, ◌≤◌, ◌==◌, ◌&&◌, ◌||◌, nat_le, nat_lt, Bool, true, map, length, List, Option, Some, None, option_map, slice_get}
use Rattle.uv_ids.specs.declared.id.Id.{Id}
use Rattle.uv_ids.specs.declared.id.Var.{Var}
use Rattle.uv_records.specs.declared.named.Named.{Named}
use Rattle.uv_records.specs.declared.slot.Slot.{Slot}
use Rattle.uv_records.specs.Slots.{Slots, held}
use Rattle.uv_work.specs.declared.content.Content.{Content}
use Rattle.uv_model.specs.State.{State, named}
use Rattle.uv_slots.specs.Arranged.{times}

-- the one id for all that is gone; `dead` is a number beyond all slots
abbrev pub dead_id : ℕ → Id
dead_id dead = record { slot = dead; generation = 0 }

-- an id under which nothing is held gets that one
abbrev pub buried_by : ℕ → Id → Option Content → Id
buried_by dead id None = dead_id dead
buried_by dead id (Some x) = id

abbrev pub buried_id : ℕ → List (Slot Content) → Id → Id
buried_id dead slots id = buried_by dead id (held slots id)

abbrev pub buried_name : ℕ → List (Slot Content) → Named → Named
buried_name dead slots x = record x { id = option_map (buried_id dead slots) x.id }

abbrev pub buried : ℕ → State → State
buried dead s = record s { names = map (buried_name dead s.arena.slots) s.names }

-- ---- states in which no name is bound to what is still to be made

-- nothing that is made from now on gets this id. It is beyond all slots, or its slot has gone on to a later generation. Or else its slot is
-- still at its own, and isn't free
abbrev pub is_past_by : Slots Content → Id → Option (Slot Content) → Bool
is_past_by a id None = nat_le (length a.slots + a.unused) id.slot
is_past_by a id (Some slot) = nat_lt id.generation slot.generation || (slot.generation == id.generation && times a.free id.slot == 0)

abbrev pub is_past : Slots Content → Id → Bool
is_past a id = is_past_by a id (slice_get a.slots id.slot)

pub record CanBury (dead : ℕ) (s : State) : Type 0 where
  -- there will be no slot of that number
  pub beyond : length s.arena.slots + s.arena.unused ≤ dead
  -- each slot is free once at most, and none that holds something is
  pub once : (n : ℕ) → times s.arena.free n ≤ 1
  pub empty : (id : Id) (x : Content) → held s.arena.slots id ≡ Some x → times s.arena.free id.slot ≡ 0
  -- nothing that is made from now on gets an id that a name is bound to
  pub past : (v : Var) (id : Id) → (named s v).id ≡ Some id → is_past s.arena id ≡ true

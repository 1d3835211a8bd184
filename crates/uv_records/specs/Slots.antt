-- The slots of the arena, as plain lists: taking and freeing (own).
use Rattle.std.specs.Prelude.{ℕ, zero, suc, ◌+◌, ◌-◌, ◌==◌, List, [], ◌∷◌, ◌++◌, length, Option, Some, None, option_and_then, slice_get, slice_set, if◌then◌else◌}
use Rattle.uv_ids.specs.declared.id.Id.{Id}
use Rattle.uv_records.specs.declared.slot.Slot.{Slot}

pub record Slots (X : Type 0) : Type 0 where
  -- the slots that were ever used, by number
  pub slots : List (Slot X)
  -- the numbers of those that are free, front first; an empty slot that isn't free is retired
  pub free : List ℕ
  -- how many slots were never used
  pub unused : ℕ

-- so many slots, none of them used
abbrev pub unused_slots : (X : Type 0) → ℕ → Slots X
unused_slots X n = record { slots = []; free = []; unused = n }

-- the next unused slot, at generation 0, if there is one
abbrev pub next_unused : ℕ → ℕ → Option Id
next_unused used zero = None
next_unused used (suc unused) = Some (record { slot = used; generation = 0 })

module _ {X : Type 0} where
  -- what a slot holds, if it still has the generation of the id
  abbrev pub held_in : Id → Slot X → Option X
  held_in id slot = if slot.generation == id.generation then slot.content else None

  -- what is held under an id
  abbrev pub held : List (Slot X) → Id → Option X
  held slots id = option_and_then (held_in id) (slice_get slots id.slot)

  -- the slot of an id holds this
  abbrev pub with_held : List (Slot X) → Id → X → List (Slot X)
  with_held slots id x = slice_set slots id.slot (record { generation = id.generation; content = Some x })

  -- the id of a slot
  abbrev pub id_of : ℕ → Slot X → Id
  id_of n slot = record { slot = n; generation = slot.generation }

  -- the id that the next taking gives: that of the front of the free list, else of the next unused slot
  abbrev pub next_id : List (Slot X) → ℕ → List ℕ → Option Id
  next_id slots unused [] = next_unused (length slots) unused
  next_id slots unused (n ∷ ns) = option_and_then (λ slot. Some (id_of n slot)) (slice_get slots n)

  abbrev pub next_free : Slots X → Option Id
  next_free s = next_id s.slots s.unused s.free

  -- the slots once this is held under the id that the next taking gives
  abbrev pub taken_from : List ℕ → Id → X → Slots X → Slots X
  taken_from [] id x s = record s { slots = s.slots ++ record { generation = 0; content = Some x } ∷ []; unused = s.unused - 1 }
  taken_from (n ∷ ns) id x s = record s { slots = with_held s.slots id x; free = ns }

  abbrev pub taken : Id → X → Slots X → Slots X
  taken id x s = taken_from s.free id x s

  -- a slot that is freed is empty, its generation one larger, and at the front of the free list; at the last generation it is
  -- retired
  abbrev pub freed : ℕ → Id → Slots X → Slots X
  freed last id s =
      if id.generation == last
      then record s { slots = slice_set s.slots id.slot (record { generation = id.generation; content = None }) }
      else record s {
        slots = slice_set s.slots id.slot (record { generation = id.generation + 1; content = None });
        free = id.slot ∷ s.free;
      }

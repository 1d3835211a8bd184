-- What it means that the way in which a machine's memory lies stands for a state.
use Rattle.std.specs.Prelude.{◌≡◌, ℕ, ◌+◌, List, [], ◌∷◌, map, length, Option, Some, None, slice_get}
use Rattle.uv_ids.specs.declared.id.Id.{Id}
use Rattle.uv_ids.specs.declared.due.Due.{Due}
use Rattle.uv_records.specs.declared.lists.ListName.{ListName}
use Rattle.uv_records.specs.Lists.{all_lists}
use Rattle.uv_records.specs.Linked.{first, ends_of, IsIn}
use Rattle.uv_records.specs.Count.{active_count}
use Rattle.uv_heap.specs.declared.entry.Entry.{Entry}
use Rattle.uv_heap.specs.Array.{IsHeap, SlotsDiffer, place_in}
use Rattle.uv_heap.specs.Order.{IsInOrder}
use Rattle.uv_work.specs.Pool.{busy}
use Rattle.uv_model.specs.declared.layout.LaidSlot.{LaidSlot}
use Rattle.uv_model.specs.declared.layout.Layout.{Layout}
use Rattle.uv_model.specs.declared.layout.ListEnds.{ListEnds}
use Rattle.uv_work.specs.Content.{handle_of}
use Rattle.uv_model.specs.State.{State}
use Rattle.uv_model.specs.Queries.{numbers, members}

-- ---- lists

-- a slot has these two neighbours
abbrev pub HasNeighbours : Option LaidSlot → Option ℕ → Option ℕ → Type 0
HasNeighbours None before after = ⊥
HasNeighbours (Some c) before after = (c.prev ≡ before) × (c.next ≡ after)

-- the slots are walked in this order, behind the one before them: each one's next is the one behind it, and its previous the one before
-- it; the last one has no next
abbrev pub AreWalked : List LaidSlot → Option ℕ → List ℕ → Type 0
AreWalked slots before [] = Unit {0}
AreWalked slots before (x ∷ xs) = HasNeighbours (slice_get slots x) before (first xs None) × AreWalked slots (Some x) xs

-- the slots of a list; of none of these names, of the free list
abbrev pub slots_on : State → Option ListName → List ℕ
slots_on s None = s.arena.free
slots_on s (Some l) = map (λ (id : Id). id.slot) (members s l)

-- a list with its first and last slot
abbrev pub with_ends : State → ListName → ListEnds
with_ends s l = record { list = l; ends = ends_of (slots_on s (Some l)) }

-- the generation of a slot's present or next use
abbrev pub generation_in : Option LaidSlot → ℕ
generation_in None = 0
generation_in (Some c) = c.slot.generation

-- the id under which a slot is used now
abbrev pub id_now : List LaidSlot → Id → Id
id_now slots id = record { slot = id.slot; generation = generation_in (slice_get slots id.slot) }

-- ---- the heap and the counts

-- a timer as an entry of the heap
abbrev pub entry_of : Due × Id → Entry
entry_of t = record { due = t.0; slot = t.1.slot }

-- the requests that wait, run or are done
abbrev pub open_requests : State → ℕ
open_requests s = length s.waiting + busy s.running + (length s.done.yet + length s.done.list)

-- ---- all of it

pub record LiesFor (l : Layout) (s : State) : Type 0 where
  -- the place, the names and the single values are the state's
  pub place : l.place ≡ s.place
  pub numbers : l.numbers ≡ numbers s
  pub names : l.names.items ≡ s.names
  -- so are the slots with their generations, how many were never used, and what each worker runs
  pub slots : map (λ (c : LaidSlot). c.slot) l.slots.items ≡ s.arena.slots
  pub unused : l.unused ≡ s.arena.unused
  pub running : l.running.items ≡ s.running
  -- each list, walked from its head to its tail, is the state's, and the links agree both ways; so is the free list
  pub walked : (k : Option ListName) → AreWalked l.slots.items None (slots_on s k)
  pub free : l.free ≡ ends_of s.arena.free
  pub lists : l.lists.items ≡ map (with_ends s) all_lists
  -- a list has slots under the ids of their present use
  pub ids : (k : ListName) → members s k ≡ map (id_now l.slots.items) (members s k)
  -- a slot is on one list at the most, and one that is on none is linked to none
  pub once : (j k : Option ListName) (x : ℕ) → IsIn x (slots_on s j) → IsIn x (slots_on s k) → j ≡ k
  pub loose : (x : ℕ) (c : LaidSlot) → slice_get l.slots.items x ≡ Some c → ((k : Option ListName) → IsIn x (slots_on s k) → ⊥)
      → (c.prev ≡ None) × (c.next ≡ None)
  -- the array is a heap with one entry a slot, its members are the timers, and each slot's place is where the array has it
  pub heap : IsHeap l.heap.items
  pub differ : SlotsDiffer l.heap.items
  pub timers : IsInOrder l.heap.items (map entry_of s.timers)
  pub places : (x : ℕ) (c : LaidSlot) → slice_get l.slots.items x ≡ Some c → c.place ≡ place_in l.heap.items x
  -- the counts are counted from the state: the active referenced handles, and the open requests
  pub active : l.active ≡ active_count handle_of s.arena.slots
  pub opened : l.opened ≡ open_requests s

-- The heap as an array from place 0. The children of place i are 2i + 1 and 2i + 2.
use Rattle.std.specs.Prelude.{◌≡◌, ℕ, ◌-◌, ◌/◌, ◌<◌, ◌==◌, false, List, length, slice_index_or, position, Option}
use Rattle.uv_heap.specs.declared.entry.Entry.{Entry}
use Rattle.uv_heap.specs.Order.{is_before}

-- what a heap shows: its array, and its room: there is memory for an entry of each slot below it
pub record Heap : Type 0 where
  pub array : List Entry
  pub room : ℕ

-- stands for an entry at a place past the end, which no rule reads
abbrev pub no_entry : Entry
no_entry = record { due = record { at = 0; start = 0 }; slot = 0 }

-- what stands at a place
abbrev pub entry_at : List Entry → ℕ → Entry
entry_at array i = slice_index_or array i no_entry

-- the place above; the root is above itself
abbrev pub parent : ℕ → ℕ
parent i = (i - 1) / 2

-- no entry comes before its parent
abbrev pub IsHeap : List Entry → Type 0
IsHeap array = (i : ℕ) → i < length array → is_before (entry_at array i) (entry_at array (parent i)) ≡ false

-- no two entries have the same slot
abbrev pub SlotsDiffer : List Entry → Type 0
SlotsDiffer array = (i j : ℕ) → i < length array → j < length array → (entry_at array i).slot ≡ (entry_at array j).slot → i ≡ j

-- there is room for each entry's slot
abbrev pub SlotsFit : List Entry → ℕ → Type 0
SlotsFit array room = (i : ℕ) → i < length array → (entry_at array i).slot < room

-- the place where the array has a slot, if it does
abbrev pub place_in : List Entry → ℕ → Option ℕ
place_in array slot = position (λ e. e.slot == slot) array

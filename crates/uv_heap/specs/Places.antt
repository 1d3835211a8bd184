-- What the stored places say.
use Rattle.std.specs.Prelude.{ℕ, ◌≡◌, ◌<◌, ◌≤◌, ◌^◌, List, length, slice_index_or, count_by, is_some, Option, Some, None}
use Rattle.uv_heap.specs.declared.entry.Entry.{Entry}
use Rattle.uv_heap.specs.Array.{entry_at}

-- each place is where the array has that slot, there is memory for an entry of each slot that has a place or none, and slots and places are numbers
-- of 32 bits
pub record ArePlaces (array : List Entry) (places : List (Option ℕ)) (capacity : ℕ) : Type 0 where
  pub known : (i : ℕ) → i < length array → (entry_at array i).slot < length places
  pub right : (i : ℕ) → i < length array → slice_index_or places (entry_at array i).slot None ≡ Some i
  pub only : (slot i : ℕ) → slice_index_or places slot None ≡ Some i → (i < length array) × ((entry_at array i).slot ≡ slot)
  pub counted : count_by is_some places ≡ length array
  pub fits : length places ≤ capacity
  pub narrow : length places ≤ 2 ^ 32

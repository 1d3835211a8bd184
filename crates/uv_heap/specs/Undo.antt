-- What takes a push or a removal back: the entry that moved walks the same path the other way.
use Rattle.std.specs.Prelude.{ℕ, zero, suc, ◌-◌, ◌<◌, ◌≤◌, ◌≡◌, None, ◌==◌, nat_lt, nat_le, if◌then◌else◌, List, [], ◌∷◌, ◌++◌, length, take, swap, slice_set}
use Rattle.uv_heap.specs.declared.entry.Entry.{Entry}
use Rattle.uv_heap.specs.declared.undo.HeapRemoveUndo.{HeapRemoveUndo}
use Rattle.uv_heap.specs.Array.{Heap, entry_at, parent, place_in, IsHeap}

-- What moves is an entry, or whatever stands for one, as its slot.
-- The one at `from` goes up the chain of parents to `to`: each on the chain above it moves to the place below. From place i there are at most i steps
unfoldable pub raised : {A : Type 0} → ℕ → List A → ℕ → ℕ → List A
raised zero array from to = array
raised (suc steps) array from to =
    if nat_lt to from then raised steps (swap array from (parent from)) (parent from) to else array

-- The one at `from` goes down the chain of parents of `to`, to `to`: each on the chain below it moves to its parent's place
unfoldable pub lowered : {A : Type 0} → ℕ → List A → ℕ → ℕ → List A
lowered zero array from to = array
lowered (suc steps) array from to =
    if nat_lt from to then swap (lowered steps array from (parent to)) (parent to) to else array

-- A push that ended at a place is taken back: the one there goes down to the last place, and the last place goes
unfoldable pub push_undone : {A : Type 0} → List A → ℕ → List A
push_undone array place =
    let last = length array - 1 in
    take last (lowered last array place last)

-- the one that came to rest at `rest` goes back to `place`, from above or from below
abbrev pub returned : {A : Type 0} → List A → ℕ → ℕ → List A
returned array rest place = if nat_le rest place then lowered place array rest place else raised rest array rest place

-- A removal is taken back. Of the last place, the entry is put there again. Else the one that moved goes back to the place, and
-- from there to the end, and the removed one is put at the place
unfoldable pub removal_undone : List Entry → HeapRemoveUndo → List Entry
removal_undone array undo =
    if undo.place == length array then array ++ undo.entry ∷ []
    else
    (let back = returned array undo.rest undo.place in
    slice_set back undo.place undo.entry ++ entry_at back undo.place ∷ [])

-- the push that ended at this place can be taken back, as it can where the array is as that push left it
pub record CanUndoPush (array : List Entry) (place : ℕ) : Type 0 where
  pub within : place < length array
  pub heap_before : IsHeap (push_undone array place)

-- the removed entry can be put back, as it can where the array is as that removal left it
pub record CanPutBack (array : List Entry) (undo : HeapRemoveUndo) : Type 0 where
  pub place_within : undo.place ≤ length array
  pub rest_within : undo.place < length array → undo.rest < length array
  pub slot_absent : place_in array undo.entry.slot ≡ None
  pub heap_before : IsHeap (removal_undone array undo)

-- the removal can be taken back: the entry can be put back, and there is room for it
pub record CanUndoRemove (heap : Heap) (undo : HeapRemoveUndo) : Type 0 where
  pub put_back : CanPutBack heap.array undo
  pub has_room : undo.entry.slot < heap.room

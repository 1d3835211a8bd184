-- Taking a timer off the heap, and setting it there.
use Rattle.std.specs.Prelude.{◌≡◌, ℕ, List, Option, None}
use Rattle.uv_ids.specs.declared.due.Due.{Due}
use Rattle.uv_heap.specs.declared.entry.Entry.{Entry}
use Rattle.uv_heap.specs.declared.undo.HeapRemoveUndo.{HeapRemoveUndo}
use Rattle.uv_heap.specs.Array.{Heap, place_in}
use Rattle.uv_heap.specs.Order.{IsInOrder}
use Rattle.uv_timer.specs.declared.change.Times.{Times}
use Rattle.uv_timer.specs.declared.undo.SetUndo.{SetUndo}
use Rattle.uv_timer.specs.Timed.{unset, CanUnset, undrawn, put_back, CanPutBack}
use Rattle.uv_timer.specs.Timers.{off_heap, on_heap, cleared, with_due, drawn}

-- the heap has no timer of the slot any more
pub record IsUnhooked (slot : ℕ) (old new : Heap) (u : Option HeapRemoveUndo) : Type 0 where
  pub absent : place_in new.array slot ≡ None
  pub array : new.array ≡ off_heap slot old.array
  pub timers : (ts : List Entry) → IsInOrder old.array ts → IsInOrder new.array (cleared slot ts)
  pub room : new.room ≡ old.room
  pub undone : put_back u new.array ≡ old.array
  pub can_undo : CanPutBack new.room u new.array

-- the timer of the slot is on the heap and has drawn a start number, if it is due at some time
pub record IsHooked (slot : ℕ) (due : Option Due) (old new : Heap) (before after : Times) (u : Option SetUndo) : Type 0 where
  pub array : new.array ≡ on_heap due slot old.array
  pub timers : (ts : List Entry) → IsInOrder old.array ts → IsInOrder new.array (with_due due slot ts)
  pub times : after ≡ drawn due before
  pub room : new.room ≡ old.room
  pub undone : unset u new.array ≡ old.array
  pub undrawn : undrawn u after ≡ before
  pub can_undo : CanUnset u new.array

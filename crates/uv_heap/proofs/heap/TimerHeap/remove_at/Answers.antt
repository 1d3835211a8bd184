-- A removal keeps the heap and the order of timers, and is taken back exactly.
use Rattle.uv_heap.proofs.Names.{◌≡◌, ◌<◌, ℕ, List, length, sym, ◌∙◌, ap, arith, Entry, Heap, entry_at, HeapRemoveUndo}
use Rattle.uv_heap.specs.Moves.{removed}
use Rattle.uv_heap.specs.Undo.{removal_undone}
use Rattle.uv_heap.proofs.HeapOrder.{heap_removed}
use Rattle.uv_heap.proofs.OrderLemmas.{order_removed}
use Rattle.uv_heap.proofs.UndoLemmas.{removal_undone-removed, length-removed, place-removed}
use Rattle.uv_heap.proofs.heap.TimerHeap.remove_at.Goals as goal

pub invariant_of-self : goal.invariant_of-self
invariant_of-self c = grind (arith, heap_removed)

pub returns-clause-order : goal.returns-clause-order
returns-clause-order c = grind (arith, order_removed)

-- the undo gives back the array
undone : (xs ys : List Entry) (place : ℕ) (undo : HeapRemoveUndo) → place < length xs → ys ≡ (removed xs place).array → undo.place ≡ place
    → undo.rest ≡ (removed xs place).place → undo.entry ≡ entry_at xs place → removal_undone ys undo ≡ xs
undone xs ys place undo l p q r e = grind (arith, removal_undone-removed)

pub returns-clause-can_undo : goal.returns-clause-can_undo
returns-clause-can_undo c = grind (arith, length-removed, place-removed, undone)

pub returns-clause-undone : goal.returns-clause-undone
returns-clause-undone c = grind (arith, undone)

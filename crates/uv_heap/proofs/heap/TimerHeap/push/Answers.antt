-- A push keeps the heap and the order of timers, and is taken back exactly.
use Rattle.uv_heap.proofs.Names.{◌≡◌, ℕ, List, length, ◌∙◌, ap, arith, Entry, Heap}
use Rattle.uv_heap.specs.Moves.{pushed}
use Rattle.uv_heap.specs.Undo.{push_undone}
use Rattle.uv_heap.proofs.HeapOrder.{heap_pushed}
use Rattle.uv_heap.proofs.OrderLemmas.{order_pushed}
use Rattle.uv_heap.proofs.UndoLemmas.{push_undone-pushed, length-pushed, place-pushed}
use Rattle.uv_heap.proofs.heap.TimerHeap.push.Goals as goal

pub invariant_of-self : goal.invariant_of-self
invariant_of-self c = rw c.push-place.ensures.array (heap_pushed c.self.inside.entries.array c.args.entry c.self.invariant)

pub returns-clause-order : goal.returns-clause-order
returns-clause-order c = λ timers h. rw c.push-place.ensures.array
    (order_pushed c.self.inside.entries.array timers c.args.entry (rw (ap (λ (heap : Heap). heap.array) c.self.view_is) h))

-- the undo gives back the array
undone : (xs ys : List Entry) (e : Entry) (place : ℕ) → ys ≡ (pushed xs e).array → place ≡ (pushed xs e).place → push_undone ys place ≡ xs
undone xs ys e place p q = (λ i. push_undone (p i) (q i)) ∙ push_undone-pushed xs e

pub returns-clause-can_undo : goal.returns-clause-can_undo
returns-clause-can_undo c = grind (arith, length-pushed, place-pushed, undone)

pub returns-clause-undone : goal.returns-clause-undone
returns-clause-undone c = grind (arith, undone)

-- The root is the least.
use Rattle.uv_heap.proofs.Names.{◌≡◌, List, [], ◌∷◌, Some, ◌∙◌, ap, IfSome, slice_get, Entry, IsInOrder, IsBeforeAll, NoneBefore, IsHeap}
use Rattle.uv_heap.proofs.OrderLemmas.{least_first, first_is_root, none_in_empty}
use Rattle.uv_heap.proofs.heap.TimerHeap.least.Goals as goal

least : (xs : List Entry) → IsHeap xs → IfSome (slice_get xs 0) (λ e. NoneBefore e xs)
least [] h = tt
least (x ∷ xs) h = least_first x xs h

is_first : (xs : List Entry) → IsHeap xs → (first : Entry) (others : List Entry) → IsInOrder xs (first ∷ others) → IsBeforeAll first others
    → slice_get xs 0 ≡ Some first
is_first [] h first others order before = absurd (none_in_empty first others order)
is_first (x ∷ xs) h first others order before = ap Some (first_is_root x xs first others h order before)

pub returns-clause-least : goal.returns-clause-least
returns-clause-least c =
    let root : c.copied.result ≡ slice_get c.args.self.now.array 0 = c.copied.ensures ∙ c.first.ensures.value
    ∙ ap (λ (xs : List Entry). slice_get xs 0) c.entries.ensures.array in
    rw root (least c.args.self.now.array c.entries.ensures.heap)

pub returns-clause-first : goal.returns-clause-first
returns-clause-first c = λ first others order before.
    c.copied.ensures ∙ c.first.ensures.value ∙ ap (λ (xs : List Entry). slice_get xs 0) c.entries.ensures.array
    ∙ is_first c.args.self.now.array c.entries.ensures.heap first others order before

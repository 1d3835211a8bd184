-- The last entry and its place go.
use Rattle.uv_heap.proofs.Names.{sym, ◌∙◌, ap, Heap}
use Rattle.uv_heap.proofs.PlaceLemmas.{places_popped}
use Rattle.uv_heap.proofs.placed.PlacedEntries.pop.Goals as goal

pub invariant_of-self-2 : goal.invariant_of-self-2
invariant_of-self-2 c =
    let memory = c.in_ok-entry.ensures.capacity in
    rw memory (places_popped c.pop.new.self.items c.self.inside.places.items _ c.in_ok-entry.entry
    (rw (← c.in_ok-entry.ensures.items) c.self.invariant))

pub returns-clause-last : goal.returns-clause-last
returns-clause-last c = ap (λ (h : Heap). h.array) (sym c.self.view_is) ∙ c.in_ok-entry.ensures.items

-- Memory and slots with no place come, and the places stay.
use Rattle.uv_heap.proofs.Names.{arith}
use Rattle.uv_heap.proofs.PlaceLemmas.{places_grown, places_kept}
use Rattle.uv_heap.proofs.placed.PlacedEntries.reserve.Goals as goal

pub invariant_of-self-in_err-resize : goal.invariant_of-self-in_err-resize
invariant_of-self-in_err-resize c =
    rw (c.in_ok-reserve.ensures.items, c.in_err-resize.ensures.items)
    (places_kept c.self.inside.entries.items c.self.inside.places.items _ _ c.self.invariant c.in_ok-reserve.ensures.capacity)

pub invariant_of-self-2 : goal.invariant_of-self-2
invariant_of-self-2 c =
    rw (c.in_ok-reserve.ensures.items, c.in_ok-resize.ensures.items)
    (places_grown c.self.inside.entries.items c.self.inside.places.items _ _ _ _ c.self.invariant
    (omega (arith, c.self.inside.places.ok.0)) (omega (arith, c.self.inside.places.ok.0, c.self.inside.entries.ok.0, c.in_ok-reserve.ensures.ok))
    (omega (arith, c.self.inside.places.ok.0)))

-- The stored place is where the array has the slot.
use Rattle.uv_heap.proofs.Names.{◌≡◌, sym, ap, ◌∙◌, None, get_or, Option, ℕ, List, get_or_past, Heap, place_in}
use Rattle.uv_heap.proofs.PlaceLemmas.{place_in_is, stored_within, stored_slot}
use Rattle.uv_heap.proofs.placed.PlacedEntries.place_of.Goals as goal

pub returns-in-Some : goal.returns-in-Some
returns-in-Some c =
    let xs = c.self.inside.entries.items in
    let ps = c.self.inside.places.items in
    let view : xs ≡ c.args.self.now.array = ap (λ (h : Heap). h.array) c.self.view_is in
    let stored : c.in-Some.place.now ≡ get_or ps c.args.slot None = c.in-Some.ensures.lookup.3.1 None
    ∙ ap (λ (l : List (Option ℕ)). get_or l c.args.slot None) c.deref.ensures.value in
    record {
      place = stored ∙ sym (place_in_is xs ps _ c.args.slot c.self.invariant) ∙ ap (λ (l : List _). place_in l c.args.slot) view;
      within = rw (← view) (stored_within xs ps _ c.args.slot c.in-Some.place.now c.self.invariant stored);
      slot = rw (← view) (stored_slot xs ps _ c.args.slot c.in-Some.place.now c.self.invariant stored);
    }

pub returns-in-None : goal.returns-in-None
returns-in-None c = record {
  place =
      sym (get_or_past c.deref.result.now c.args.slot None c.in-None.ensures.lookup.3)
      ∙ ap (λ (ps : List (Option ℕ)). get_or ps c.args.slot None) c.deref.ensures.value
      ∙ sym (place_in_is c.self.inside.entries.items c.self.inside.places.items _ c.args.slot c.self.invariant)
      ∙ ap (λ (h : Heap). place_in h.array c.args.slot) c.self.view_is;
  within = tt;
  slot = tt;
}

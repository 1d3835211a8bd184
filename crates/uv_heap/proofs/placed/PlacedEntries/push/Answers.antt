-- A slot with no place has memory, and the places stay right.
use Rattle.uv_heap.proofs.Names.{◌≡◌, sym, ◌∙◌, arith, length, None, ◌<◌, get_or, ℕ, List, Option, ap, Entry, Heap, place_in, ArePlaces}
use Rattle.uv_heap.proofs.PlaceLemmas.{place_in_is, is_free, places_pushed}
use Rattle.uv_heap.proofs.placed.PlacedEntries.push.Goals as goal

-- a slot within the room that is on no entry has no stored place
record HasNone (places : List (Option ℕ)) (slot : ℕ) : Type 0 where
  within : slot < length places
  none : get_or places slot None ≡ None

has_none : (heap : Heap) (xs : List Entry) (ps : List (Option ℕ)) (memory slot : ℕ) → ArePlaces xs ps memory
    → record { array = xs; room = length ps } ≡ heap → slot < heap.room → place_in heap.array slot ≡ None → HasNone ps slot
has_none heap xs ps memory slot h view room absent =
    let width : length ps ≡ heap.room = ap (λ (h : Heap). h.room) view in
    record {
      within = omega arith;
      none = sym (place_in_is xs ps memory slot h) ∙ ap (λ (h : Heap). place_in h.array slot) view ∙ absent;
    }

pub push_reserved-requires : goal.push_reserved-requires
push_reserved-requires c =
    let xs = c.self.inside.entries.items in
    let ps = c.self.inside.places.items in
    let s = has_none c.args.self.now xs ps _ c.args.entry.slot c.self.invariant c.self.view_is c.requires.room c.requires.absent in
    let less = is_free xs ps _ c.args.entry.slot c.self.invariant s.within s.none in
    omega (arith, c.self.inside.entries.ok.0, less, c.self.invariant.fits)

pub overflow_cast-place : goal.overflow_cast-place
overflow_cast-place c =
    let xs = c.self.inside.entries.items in
    let ps = c.self.inside.places.items in
    let s = has_none c.args.self.now xs ps _ c.args.entry.slot c.self.invariant c.self.view_is c.requires.room c.requires.absent in
    let less = is_free xs ps _ c.args.entry.slot c.self.invariant s.within s.none in
    omega (arith, less, c.self.invariant.narrow)

pub invariant_of-self : goal.invariant_of-self
invariant_of-self c =
    let xs = c.self.inside.entries.items in
    let ps = c.self.inside.places.items in
    let s = has_none c.args.self.now xs ps _ c.args.entry.slot c.self.invariant c.self.view_is c.requires.room c.requires.absent in
    let last : c.len-place.result ≡ length xs = omega (arith, c.self.inside.entries.ok.0) in
    rw (c.push_reserved.ensures.items, c.push_reserved.ensures.capacity, last)
    (places_pushed xs ps _ c.args.entry c.self.invariant s.within s.none)

pub returns-clause-narrow : goal.returns-clause-narrow
returns-clause-narrow c =
    let xs = c.self.inside.entries.items in
    let ps = c.self.inside.places.items in
    let s = has_none c.args.self.now xs ps _ c.args.entry.slot c.self.invariant c.self.view_is c.requires.room c.requires.absent in
    let less = is_free xs ps _ c.args.entry.slot c.self.invariant s.within s.none in
    let view : length xs ≡ length c.args.self.now.array = ap (λ (h : Heap). length h.array) c.self.view_is in
    omega (arith, less, c.self.invariant.narrow)

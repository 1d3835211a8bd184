-- Both entries are read, and each is put where the other stood; the places of both change.
use Rattle.uv_heap.proofs.Names.{◌≡◌, ◌∙◌, ap, arith, length, ◌<◌, swap, get_or_read, Heap, entry_at, no_entry}
use Rattle.uv_heap.proofs.Lists.{set-set}
use Rattle.uv_heap.proofs.PlaceLemmas.{places_swapped}
use Rattle.uv_heap.proofs.placed.PlacedEntries.swap.Goals as goal

pub invariant_of-self : goal.invariant_of-self
invariant_of-self c =
    let xs = c.self.inside.entries.items in
    let view : xs ≡ c.args.self.now.array = ap (λ (h : Heap). h.array) c.self.view_is in
    let a_in : c.args.a < length xs = rw view c.requires.a_within in
    let b_in : c.args.b < length xs = rw view c.requires.b_within in
    let first : c.index.result.now ≡ entry_at xs c.args.a = get_or_read xs c.args.a c.index.result.now a_in c.index.ensures no_entry in
    let second : c.index-2.result.now ≡ entry_at xs c.args.b = get_or_read xs c.args.b c.index-2.result.now b_in c.index-2.ensures no_entry in
    rw (first, second, set-set xs c.args.a c.args.b a_in b_in)
    (places_swapped xs c.self.inside.places.items _ c.args.a c.args.b a_in b_in c.self.invariant)

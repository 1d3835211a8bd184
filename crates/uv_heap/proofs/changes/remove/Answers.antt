use Rattle.uv_heap.proofs.Names.{◌≡◌, ℕ, ◌-◌, List, length, take, sym, ◌∙◌, ap, arith, swap, length-take-le, length-swap, Entry, Moved, entry_at}
use Rattle.uv_heap.specs.Moves.{settled, removed}
use Rattle.uv_heap.proofs.MoveLemmas.{settled_within}
use Rattle.uv_heap.proofs.UndoLemmas.{removed_last, removed_inner, avoids_is, avoids_removed}
use Rattle.uv_heap.proofs.changes.remove.Goals as goal

-- what is left once the two have changed places and the last one went
left : (xs ys zs : List Entry) (i n : ℕ) → ys ≡ swap xs i n → zs ≡ take (length ys - 1) ys → n ≡ length xs - 1 → zs ≡ take n (swap xs i n)
left xs ys zs i n e f g = grind (arith, length-swap)

pub returns-then-place-last-clause-array : goal.returns-then-place-last-clause-array
returns-then-place-last-clause-array c = grind (arith, left, removed_last)

pub returns-then-place-last-clause-rest : goal.returns-then-place-last-clause-rest
returns-then-place-last-clause-rest c = grind (arith, removed_last)

pub returns-clause-array : goal.returns-clause-array
returns-clause-array c =
    let xs = c.args.entries.now.array in
    let long = ap length c.as_slice.ensures.array in
    let n = length c.as_slice.result.now - 1 in
    c.settle-rest.ensures.array
    ∙ ap (λ (ys : List Entry). (settled ys c.args.place).array)
    (left xs c.swap.new.self.array c.pop.new.self.array c.args.place n c.swap.ensures.array c.pop.ensures.array (omega arith))
    ∙ ap (λ (m : Moved). m.array) (removed_inner xs c.args.place n (omega arith) (omega arith))

pub returns-clause-rest : goal.returns-clause-rest
returns-clause-rest c =
    let xs = c.args.entries.now.array in
    let long = ap length c.as_slice.ensures.array in
    let n = length c.as_slice.result.now - 1 in
    c.settle-rest.ensures.place
    ∙ ap (λ (ys : List Entry). (settled ys c.args.place).place)
    (left xs c.swap.new.self.array c.pop.new.self.array c.args.place n c.swap.ensures.array c.pop.ensures.array (omega arith))
    ∙ ap (λ (m : Moved). m.place) (removed_inner xs c.args.place n (omega arith) (omega arith))

pub returns-then-place-last-clause-absent : goal.returns-then-place-last-clause-absent
returns-then-place-last-clause-absent c =
    let xs = c.args.entries.now.array in
    rw (returns-then-place-last-clause-array c, c.as_slice-2.ensures.array)
    (avoids_is (removed xs c.args.place).array (entry_at xs c.args.place).slot (avoids_removed xs c.args.place c.requires c.as_slice.ensures.slots))

pub returns-clause-absent : goal.returns-clause-absent
returns-clause-absent c =
    let xs = c.args.entries.now.array in
    rw (returns-clause-array c, c.as_slice-2.ensures.array)
    (avoids_is (removed xs c.args.place).array (entry_at xs c.args.place).slot (avoids_removed xs c.args.place c.requires c.as_slice.ensures.slots))

pub overflow_cast-rest : goal.overflow_cast-rest
overflow_cast-rest c = grind (arith, length-swap, length-take-le, settled_within)

use Rattle.uv_heap.proofs.Names.{◌≡◌, ◌<◌, ◌-◌, length, false, sym, ◌∙◌, ap, arith, refl, false≢true, false_from_ne_true, length-swap, Moved, must_sink}
use Rattle.uv_heap.proofs.MoveLemmas.{moved_down_more, moved_down_end, child_is, child_within}
use Rattle.uv_heap.proofs.sift.move_down.Goals as goal

pub loop-child-smaller : goal.loop-child-smaller
loop-child-smaller c =
    let below = (child_is c.loop-child.entries.array c.loop-child.place).1 in
    let smaller : length c.swap.new.self.array - c.in-Some.child < length c.loop-child.entries.array - c.loop-child.place =
    rw (c.swap.ensures.array, length-swap c.loop-child.entries.array c.loop-child.place c.in-Some.child)
    (omega (arith, c.in-Some.ensures.child, below, c.loop-child.invariant.within)) in
    smaller

pub loop-child-preserved : goal.loop-child-preserved
loop-child-preserved c = grind (arith, child_within, length-swap, moved_down_more)

pub returns-clause-array : goal.returns-clause-array
returns-clause-array c = grind (arith, false_from_ne_true, false≢true, moved_down_end)

pub returns-clause-place : goal.returns-clause-place
returns-clause-place c =
    let stays : must_sink c.loop-child.entries.array c.loop-child.place ≡ false =
    false_from_ne_true _ (λ e. false≢true (c.in_default.ensures.greater.1 e)) in
    ap (λ (m : Moved). m.place) (sym (moved_down_end c.loop-child.entries.array c.loop-child.place stays) ∙ c.loop-child.invariant.rest)

use Rattle.uv_heap.proofs.Names.{sym, ◌∙◌, ap, Moved}
use Rattle.uv_heap.proofs.MoveLemmas.{settled_up, settled_down}
use Rattle.uv_heap.proofs.sift.settle.Goals as goal

pub returns-then-must_rise-clause-array : goal.returns-then-must_rise-clause-array
returns-then-must_rise-clause-array c = c.move_up.ensures.array
    ∙ ap (λ (m : Moved). m.array) (sym (settled_up c.args.entries.now.array c.args.place (sym c.must_rise.ensures ∙ c.if-must_rise.true)))

pub returns-then-must_rise-clause-place : goal.returns-then-must_rise-clause-place
returns-then-must_rise-clause-place c = c.move_up.ensures.place
    ∙ ap (λ (m : Moved). m.place) (sym (settled_up c.args.entries.now.array c.args.place (sym c.must_rise.ensures ∙ c.if-must_rise.true)))

pub returns-else-must_rise-clause-array : goal.returns-else-must_rise-clause-array
returns-else-must_rise-clause-array c = c.move_down.ensures.array
    ∙ ap (λ (m : Moved). m.array) (sym (settled_down c.args.entries.now.array c.args.place (sym c.must_rise.ensures ∙ c.if-must_rise.false)))

pub returns-else-must_rise-clause-place : goal.returns-else-must_rise-clause-place
returns-else-must_rise-clause-place c = c.move_down.ensures.place
    ∙ ap (λ (m : Moved). m.place) (sym (settled_down c.args.entries.now.array c.args.place (sym c.must_rise.ensures ∙ c.if-must_rise.false)))

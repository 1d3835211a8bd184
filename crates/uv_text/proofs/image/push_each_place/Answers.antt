use Rattle.uv_text.proofs.Names.{err_from_is_err_and, CutShort, ◌++◌, ap, subst, ◌∙◌, arith, place_text}
use Rattle.uv_text.proofs.Cuts.{each_cut}
use Rattle.uv_text.proofs.Pieces.{each_turn, each_end}
use Rattle.uv_text.proofs.image.push_each_place.Goals as goal

pub loop-slot-preserved : goal.loop-slot-preserved
loop-slot-preserved c =
    let text = c.loop-slot.text.items in
    c.in_ok-push_or_dash.ensures ∙ ap (λ slot. text ++ place_text slot) c.slot-item.is
    ∙ each_turn place_text c.args.slots.now c.loop-slot.slot-index _ c.args.text.now.items text (omega arith) c.loop-slot.invariant

pub returns : goal.returns
returns c =
    each_end place_text c.args.slots.now c.loop-slot.slot-index c.args.text.now.items c.loop-slot.text.items (omega arith) c.loop-slot.invariant

pub returns-in_err-push_or_dash : goal.returns-in_err-push_or_dash
returns-in_err-push_or_dash c =
    let exit = c.from_residual in
    let p = err_from_is_err_and exit.result exit.ensures.1 in
    rw (p.1) (each_cut place_text c.args.slots.now c.loop-slot.slot-index _ c.args.text.now.items c.loop-slot.text.items _ (omega arith)
    c.loop-slot.invariant (subst (λ slot. CutShort c.loop-slot.text.items (place_text slot) c.push_or_dash.new.text.items) c.slot-item.is
    c.in_err-push_or_dash.ensures))

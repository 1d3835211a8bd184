use Rattle.uv_text.proofs.Names.{arith, named_ends, err_from_is_err_and}
use Rattle.uv_text.proofs.Pieces.{each_end}
use Rattle.uv_text.proofs.Cuts.{each_cut}
use Rattle.uv_text.proofs.image.push_lists.Goals as goal

pub returns : goal.returns
returns c =
    each_end named_ends c.args.lists.now c.loop-one.one-index c.args.text.now.items c.loop-one.text.items (omega arith) c.loop-one.invariant

pub returns-in_err-push_ends : goal.returns-in_err-push_ends
returns-in_err-push_ends c =
    let text = c.loop-one.text.items in
    let exit = c.from_residual in
    let p = err_from_is_err_and exit.result exit.ensures.1 in
    rw (p.1) (each_cut named_ends c.args.lists.now c.loop-one.one-index _ c.args.text.now.items text _ (omega arith) c.loop-one.invariant
    (rw c.list_word.ensures at c.in_err-push_ends.ensures))

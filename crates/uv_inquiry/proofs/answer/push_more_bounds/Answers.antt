use Rattle.uv_inquiry.proofs.Names.{◌∙◌, arith, more_bound, err_from_is_err_and, each_cut}
use Rattle.uv_text.proofs.Pieces.{each_turn, each_end}
use Rattle.uv_inquiry.proofs.answer.push_more_bounds.Goals as goal

pub loop-bound-preserved : goal.loop-bound-preserved
loop-bound-preserved c = grind (arith, each_turn)

pub returns : goal.returns
returns c =
    each_end (more_bound c.args.names.now) c.args.most.now c.loop-bound.bound-index c.args.text.now.items c.loop-bound.text.items (omega arith)
    c.loop-bound.invariant

pub returns-in_err-push_more : goal.returns-in_err-push_more
returns-in_err-push_more c =
    let exit = c.from_residual in
    let p = err_from_is_err_and exit.result exit.ensures.1 in
    grind (arith, each_cut)

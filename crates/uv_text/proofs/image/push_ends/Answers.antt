use Rattle.uv_text.proofs.Names.{rules, append_assoc, ◌++◌, codes, arith, or_dash, err_from_is_err_and, begins_itself, begins_more}
use Rattle.uv_text.specs.Image.{ends_line}
use Rattle.uv_text.proofs.Cuts.{cut}
use Rattle.uv_text.proofs.image.push_ends.Goals as goal

pub returns : goal.returns
unfolding ends_line
returns c = search (rules, append_assoc)

pub returns-in_err-push_or_dash : goal.returns-in_err-push_or_dash
unfolding ends_line
returns-in_err-push_or_dash c =
    let exit = c.from_residual-in_err-push_or_dash in
    let p = err_from_is_err_and exit.result exit.ensures.1 in
    rw (p.1) (cut (codes "list " ++ c.args.word.now) c.in_err-push_or_dash.ensures (grind (arith, append_assoc))
    (search (begins_itself, begins_more)))

pub returns-in_err-push_or_dash-2 : goal.returns-in_err-push_or_dash-2
unfolding ends_line
returns-in_err-push_or_dash-2 c =
    let exit = c.from_residual-in_err-push_or_dash-2 in
    let p = err_from_is_err_and exit.result exit.ensures.1 in
    rw (p.1) (cut (codes "list " ++ c.args.word.now ++ or_dash c.args.ends.head) c.in_err-push_or_dash-2.ensures (grind (arith, append_assoc))
    (search (begins_itself, begins_more)))

use Rattle.uv_text.proofs.Names.{◌++◌, append_assoc, codes, arith, err_from_is_err_and, begins_itself, begins_more, or_dash, numbered}
use Rattle.uv_text.specs.Image.{link_line}
use Rattle.uv_text.proofs.Cuts.{cut}
use Rattle.uv_text.proofs.image.push_link.Goals as goal

pub returns-in_err-push_or_dash-2 : goal.returns-in_err-push_or_dash-2
unfolding link_line
returns-in_err-push_or_dash-2 c =
    let exit = c.from_residual-in_err-push_or_dash-2 in
    let p = err_from_is_err_and exit.result exit.ensures.1 in
    rw (p.1) (cut (numbered (codes "link ") c.args.number ++ or_dash c.args.slot.prev) c.in_err-push_or_dash-2.ensures (grind (arith, append_assoc))
    (search (begins_itself, begins_more)))

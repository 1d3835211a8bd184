use Rattle.uv_text.proofs.Names.{rules, append_assoc, ◌++◌, codes, arith, err_from_is_err_and, begins_itself, begins_more, id_text}
use Rattle.uv_text.proofs.Cuts.{cut}
use Rattle.uv_text.proofs.state.push_request_line.Goals as goal

pub returns : goal.returns
returns c = search (rules, append_assoc)

pub returns-in_err-push_request : goal.returns-in_err-push_request
returns-in_err-push_request c =
    let exit = c.from_residual-in_err-push_request in
    let p = err_from_is_err_and exit.result exit.ensures.1 in
    rw (p.1) (cut (codes "slot " ++ id_text c.args.id ++ codes " ") c.in_err-push_request.ensures (grind (arith, append_assoc))
    (search (begins_itself, begins_more)))

use Rattle.uv_inquiry.proofs.Names.{◌++◌, append_assoc, codes, arith, err_from_is_err_and, begins_itself, begins_more, steps_text, cut}
use Rattle.uv_inquiry.specs.Texts.{every_text}
use Rattle.uv_inquiry.proofs.answer.push_every.Goals as goal

pub returns-in_err-push_states : goal.returns-in_err-push_states
unfolding every_text
returns-in_err-push_states c =
    let exit = c.from_residual-in_err-push_states in
    let p = err_from_is_err_and exit.result exit.ensures.1 in
    rw (p.1) (cut (codes ", in " ++ steps_text c.args.steps ++ codes ": ") c.in_err-push_states.ensures (grind (arith, append_assoc)) (search
    (begins_itself, begins_more)))

use Rattle.uv_inquiry.proofs.Names.{◌++◌, append_assoc, codes, arith, err_from_is_err_and, begins_itself, begins_more, bounds_text, cut}
use Rattle.uv_inquiry.specs.Texts.{never_text}
use Rattle.uv_inquiry.proofs.answer.push_never.Goals as goal

pub returns-in_err-push_states : goal.returns-in_err-push_states
unfolding never_text
returns-in_err-push_states c =
    let exit = c.from_residual-in_err-push_states in
    let p = err_from_is_err_and exit.result exit.ensures.1 in
    rw (p.1) (cut (codes "never" ++ bounds_text c.args.inquiry.now.script.names c.args.inquiry.now.asking.differ c.args.inquiry.now.asking.clock
    c.args.inquiry.now.asking.most.items ++ codes ": ") c.in_err-push_states.ensures (grind (arith, append_assoc)) (search
    (begins_itself, begins_more)))

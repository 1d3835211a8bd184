use Rattle.uv_inquiry.proofs.Names.{◌≡◌, ◌++◌, rules, append_assoc, codes, arith, length, err_from_is_err_and, begins_itself, begins_more, writing, steps_text, states_text, cut}
use Rattle.uv_inquiry.specs.Texts.{found_text}
use Rattle.uv_inquiry.proofs.answer.push_found.Goals as goal

pub returns-in_err-push_states : goal.returns-in_err-push_states
unfolding found_text
returns-in_err-push_states c =
    let exit = c.from_residual-in_err-push_states in
    let p = err_from_is_err_and exit.result exit.ensures.1 in
    rw (p.1) (cut (codes "found in " ++ steps_text (length c.args.steps.now) ++ codes ", ")
    c.in_err-push_states.ensures (grind (arith, append_assoc)) (search (begins_itself, begins_more)))

pub returns : goal.returns
unfolding found_text
returns c =
    let front = codes "found in " ++ steps_text (length c.args.steps.now) ++ codes ", " ++ states_text c.args.states ++ codes "\n" in
    let before : c.extend_from_slice-3.new.self.items ≡ c.args.text.now.items ++ front = grind (arith, append_assoc) in
    search (rules, writing, before)

use Rattle.uv_inquiry.proofs.Names.{◌≡◌, ◌++◌, length, refl, err_from_is_err_and, begins_itself, begins_more, cut_before, whole_behind, last_behind, some_text, cut}
use Rattle.uv_inquiry.specs.Texts.{session_text, more_text, at_least_text}
use Rattle.uv_inquiry.proofs.answer.push_at_least.Goals as goal

pub returns-in_err-push_some : goal.returns-in_err-push_some
unfolding at_least_text
returns-in_err-push_some c =
    let p = err_from_is_err_and c.from_residual.result c.from_residual.ensures.1 in
    rw (p.1) (cut_before _ _ _ _ c.in_err-push_some.ensures (search (begins_itself, begins_more)))

pub returns-in_err-push_more_states : goal.returns-in_err-push_more_states
unfolding at_least_text
returns-in_err-push_more_states c =
    let exit = c.from_residual-in_err-push_more_states in
    let p = err_from_is_err_and exit.result exit.ensures.1 in
    rw (p.1) (cut (some_text c.args.late) c.in_err-push_more_states.ensures c.in_ok-push_some.ensures
    (search (begins_itself, begins_more)))

pub returns : goal.returns
unfolding at_least_text
returns c =
    let one = some_text c.args.late in
    let two = more_text (length c.args.steps.now) c.args.states in
    let before : c.push_more_states.new.text.items ≡ c.args.text.now.items ++ (one ++ two) =
    whole_behind c.args.text.now.items one two _ _ c.in_ok-push_more_states.ensures c.in_ok-push_some.ensures in
    last_behind c.push_session.result c.args.text.now.items (one ++ two) (session_text c.args.script.now c.args.steps.now)
    _ _ _ c.push_session.ensures before refl

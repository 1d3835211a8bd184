use Rattle.uv_inquiry.proofs.Names.{◌≡◌, ◌++◌, length, refl, err_from_is_err_and, asked_in, begins_itself, begins_more, cut_before, whole_behind, last_behind, cut}
use Rattle.uv_inquiry.specs.Texts.{session_text, late_text, every_text, latest_text}
use Rattle.uv_inquiry.proofs.answer.push_latest.Goals as goal

pub returns-in_err-push_late : goal.returns-in_err-push_late
unfolding latest_text
returns-in_err-push_late c =
    let p = err_from_is_err_and c.from_residual.result c.from_residual.ensures.1 in
    rw (p.1) (cut_before _ _ _ _ c.in_err-push_late.ensures (search (begins_itself, begins_more)))

pub returns-in_err-push_every : goal.returns-in_err-push_every
unfolding latest_text
returns-in_err-push_every c =
    let exit = c.from_residual-in_err-push_every in
    let p = err_from_is_err_and exit.result exit.ensures.1 in
    rw (p.1) (cut (late_text c.args.inquiry.now.script (asked_in c.args.inquiry.now.asking) c.args.late)
    c.in_err-push_every.ensures c.in_ok-push_late.ensures (search (begins_itself, begins_more)))

pub returns : goal.returns
unfolding latest_text
returns c =
    let one = late_text c.args.inquiry.now.script (asked_in c.args.inquiry.now.asking) c.args.late in
    let two = every_text (length c.args.steps.now) c.args.states in
    let before : c.push_every.new.text.items ≡ c.args.text.now.items ++ (one ++ two) =
    whole_behind c.args.text.now.items one two _ _ c.in_ok-push_every.ensures c.in_ok-push_late.ensures in
    last_behind c.push_session.result c.args.text.now.items (one ++ two) (session_text c.args.inquiry.now.script c.args.steps.now)
    _ _ _ c.push_session.ensures before refl

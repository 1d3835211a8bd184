use Rattle.uv_inquiry.proofs.Names.{codes, states_text, ◌∙◌, ◌≡◌, ◌++◌, err_from_is_err_and, whole_behind, begins_itself, begins_more, cut_whole, cut}
use Rattle.uv_inquiry.specs.Texts.{unsettled_text}
use Rattle.uv_inquiry.proofs.Pieces.{three_pieces}
use Rattle.uv_inquiry.proofs.answer.push_unsettled.Goals as goal

pub returns : goal.returns
unfolding unsettled_text
returns c =
    three_pieces c.args.text.now.items (codes "not settled within ") (states_text c.args.states) (codes "\n")
    c.in_ok-extend_from_slice.ensures.items c.in_ok-push_states.ensures c.in_ok-extend_from_slice-2.ensures.items

pub returns-in_err-push_states : goal.returns-in_err-push_states
unfolding unsettled_text
returns-in_err-push_states c =
    let exit = c.from_residual-in_err-push_states in
    let p = err_from_is_err_and exit.result exit.ensures.1 in
    rw (p.1) (cut (codes "not settled within ") c.in_err-push_states.ensures c.in_ok-extend_from_slice.ensures.items
    (search (begins_itself, begins_more)))

pub returns-in_err-extend_from_slice-2 : goal.returns-in_err-extend_from_slice-2
unfolding unsettled_text
returns-in_err-extend_from_slice-2 c =
    let front = codes "not settled within " ++ states_text c.args.states in
    let before : c.extend_from_slice-2.new.self.items ≡ c.args.text.now.items ++ front =
    c.in_err-extend_from_slice-2.ensures.items ∙ whole_behind c.args.text.now.items (codes "not settled within ") (states_text c.args.states) _ _
    c.in_ok-push_states.ensures c.in_ok-extend_from_slice.ensures.items in
    let exit = c.from_residual-in_err-extend_from_slice-2 in
    let p = err_from_is_err_and exit.result exit.ensures.1 in
    rw (p.1) (cut_whole c.args.text.now.items front _ _ before (search (begins_itself, begins_more)))

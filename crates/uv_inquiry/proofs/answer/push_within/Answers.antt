use Rattle.uv_inquiry.proofs.Names.{codes, more_bounds, ◌∙◌, ◌≡◌, ◌++◌, err_from_is_err_and, whole_behind, begins_itself, begins_more, cut_whole, decimal, cut}
use Rattle.std.specs.Prelude.{decimal}
use Rattle.uv_inquiry.proofs.Pieces.{three_pieces}
use Rattle.uv_inquiry.proofs.answer.push_within.Goals as goal

pub returns-in_ok-push_more_bounds-in-Some : goal.returns-in_ok-push_more_bounds-in-Some
returns-in_ok-push_more_bounds-in-Some c =
    rw c.in-Some.is (three_pieces c.args.text.now.items (codes " within clock ") (decimal c.in-Some.ms)
    (more_bounds c.args.names.now c.args.asking.now.most.items) c.in_ok-extend_from_slice-in-Some.ensures.items
    c.in_ok-push_number-in-Some.ensures.ok (rw c.deref.ensures.value at c.in_ok-push_more_bounds-in-Some.ensures))

pub returns-in_err-push_number-in-Some : goal.returns-in_err-push_number-in-Some
returns-in_err-push_number-in-Some c =
    let front = codes " within clock " in
    let before : c.push_number.new.text.items ≡ c.args.text.now.items ++ front =
    c.in_err-push_number-in-Some.ensures.err ∙ c.in_ok-extend_from_slice-in-Some.ensures.items in
    let exit = c.from_residual-in_err-push_number-in-Some in
    let p = err_from_is_err_and exit.result exit.ensures.1 in
    rw (p.1, c.in-Some.is) (cut_whole c.args.text.now.items front _ _ before (search (begins_itself, begins_more)))

pub returns-in_err-push_more_bounds-in-Some : goal.returns-in_err-push_more_bounds-in-Some
returns-in_err-push_more_bounds-in-Some c =
    let exit = c.from_residual-in_err-push_more_bounds-in-Some in
    let p = err_from_is_err_and exit.result exit.ensures.1 in
    rw (p.1, c.in-Some.is) (cut (codes " within clock " ++ decimal c.in-Some.ms)
    (rw c.deref.ensures.value at c.in_err-push_more_bounds-in-Some.ensures)
    (whole_behind c.args.text.now.items (codes " within clock ") (decimal c.in-Some.ms) _ _ c.in_ok-push_number-in-Some.ensures.ok
    c.in_ok-extend_from_slice-in-Some.ensures.items) (search (begins_itself, begins_more)))

use Rattle.uv_inquiry.proofs.Names.{◌≡◌, ◌++◌, rules, append_assoc, codes, arith, err_from_is_err_and, begins_itself, begins_more, writing, clock_too, decimal, cut}
use Rattle.uv_inquiry.specs.Texts.{moved_text}
use Rattle.uv_inquiry.proofs.answer.push_moved.Goals as goal

pub returns-in_err-push_clock_too : goal.returns-in_err-push_clock_too
unfolding moved_text
returns-in_err-push_clock_too c =
    let exit = c.from_residual-in_err-push_clock_too in
    let p = err_from_is_err_and exit.result exit.ensures.1 in
    rw (p.1) (cut (codes " within " ++ decimal c.args.moved ++ codes " moved")
    c.in_err-push_clock_too.ensures (grind (arith, append_assoc)) (search (begins_itself, begins_more)))

pub returns : goal.returns
unfolding moved_text
returns c =
    let front = codes " within " ++ decimal c.args.moved ++ codes " moved" ++ clock_too c.args.clock in
    let before : c.push_clock_too.new.text.items ≡ c.args.text.now.items ++ front = grind (arith, append_assoc) in
    search (rules, writing, before)

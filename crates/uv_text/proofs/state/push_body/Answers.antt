use Rattle.uv_text.proofs.Names.{rules, ◌≡◌, ◌++◌, append_assoc, codes, arith, err_from_is_err_and, begins_itself, begins_more, writing, name_text, numbered, callback_word}
use Rattle.uv_text.proofs.Cuts.{cut}
use Rattle.uv_text.proofs.state.push_body.Goals as goal

pub returns-in_err-push_numbered : goal.returns-in_err-push_numbered
returns-in_err-push_numbered c =
    let exit = c.from_residual-in_err-push_numbered in
    let p = err_from_is_err_and exit.result exit.ensures.1 in
    rw (p.1, c.in-Some.is) (cut (codes " + " ++ callback_word c.in-Some.body.callback ++ codes " "
    ++ name_text c.args.script.now.names c.in-Some.body.name)
    (rw c.from.ensures at c.in_err-push_numbered.ensures) (grind (arith, append_assoc)) (search (begins_itself, begins_more)))

pub returns : goal.returns
returns c =
    let front = codes " + " ++ callback_word c.in-Some.body.callback ++ codes " " ++ name_text c.args.script.now.names c.in-Some.body.name
    ++ numbered (codes " ") c.in-Some.body.call in
    let before : c.push_numbered.new.text.items ≡ c.args.text.now.items ++ front = grind (arith, append_assoc) in
    rw c.in-Some.is (search (rules, writing, before))

use Rattle.uv_text.proofs.Names.{rules, ◌≡◌, ◌++◌, append_assoc, codes, arith, err_from_is_err_and, begins_itself, begins_more, writing, numbered, flagged}
use Rattle.uv_text.proofs.Cuts.{cut}
use Rattle.uv_text.proofs.state.push_kind.Goals as goal

pub returns-in_err-push_numbered-in-Timer-2 : goal.returns-in_err-push_numbered-in-Timer-2
returns-in_err-push_numbered-in-Timer-2 c =
    let exit = c.from_residual-in_err-push_numbered-in-Timer-2 in
    let p = err_from_is_err_and exit.result exit.ensures.1 in
    rw (p.1, c.in-Timer.is) (cut (flagged (codes " begun ") c.args.handle.now.begun ++ numbered (codes " due ") c.args.handle.now.due.at)
    c.in_err-push_numbered-in-Timer-2.ensures (grind (arith, append_assoc)) (search (begins_itself, begins_more)))

pub returns-in_ok-push_numbered-in-Timer-2 : goal.returns-in_ok-push_numbered-in-Timer-2
returns-in_ok-push_numbered-in-Timer-2 c =
    let front = flagged (codes " begun ") c.args.handle.now.begun ++ numbered (codes " due ") c.args.handle.now.due.at
    ++ numbered (codes " start ") c.args.handle.now.due.start in
    let before : c.push_numbered-in-Timer.new.text.items ≡ c.args.text.now.items ++ front = grind (arith, append_assoc) in
    rw c.in-Timer.is (search (rules, writing, before))

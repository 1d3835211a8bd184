use Rattle.uv_text.proofs.Names.{◌++◌, rules, append_assoc, codes, arith, err_from_is_err_and, begins_itself, begins_more, numbered, flagged}
use Rattle.uv_text.specs.State.{steps_line}
use Rattle.uv_text.proofs.Cuts.{cut}
use Rattle.uv_text.proofs.state.push_steps.Goals as goal

pub returns : goal.returns
unfolding steps_line
returns c = search (rules, append_assoc)

pub returns-in_err-push_numbered-3 : goal.returns-in_err-push_numbered-3
unfolding steps_line
returns-in_err-push_numbered-3 c =
    let m = c.args.numbers in
    let exit = c.from_residual-in_err-push_numbered-3 in
    let p = err_from_is_err_and exit.result exit.ensures.1 in
    rw (p.1) (cut (numbered (codes "steps ") c.args.steps ++ numbered (codes " now ") m.time) c.in_err-push_numbered-3.ensures
    (grind (arith, append_assoc)) (search (begins_itself, begins_more)))

pub returns-in_err-push_flagged : goal.returns-in_err-push_flagged
unfolding steps_line
returns-in_err-push_flagged c =
    let m = c.args.numbers in
    let exit = c.from_residual-in_err-push_flagged in
    let p = err_from_is_err_and exit.result exit.ensures.1 in
    rw (p.1) (cut (numbered (codes "steps ") c.args.steps ++ numbered (codes " now ") m.time ++ numbered (codes " clock ") m.clock)
    c.in_err-push_flagged.ensures (grind (arith, append_assoc)) (search (begins_itself, begins_more)))

pub returns-in_err-push_numbered-4 : goal.returns-in_err-push_numbered-4
unfolding steps_line
returns-in_err-push_numbered-4 c =
    let exit = c.from_residual-in_err-push_numbered-4 in
    let p = err_from_is_err_and exit.result exit.ensures.1 in
    rw (p.1) (cut (numbered (codes "steps ") c.args.steps ++ numbered (codes " now ") c.args.numbers.time
    ++ numbered (codes " clock ") c.args.numbers.clock
    ++ flagged (codes " stop ") c.args.numbers.stop_flag) c.in_err-push_numbered-4.ensures (grind (arith, append_assoc))
    (search (begins_itself, begins_more)))

pub returns-in_err-push_flagged-2 : goal.returns-in_err-push_flagged-2
unfolding steps_line
returns-in_err-push_flagged-2 c =
    let exit = c.from_residual-in_err-push_flagged-2 in
    let p = err_from_is_err_and exit.result exit.ensures.1 in
    rw (p.1) (cut (numbered (codes "steps ") c.args.steps ++ numbered (codes " now ") c.args.numbers.time
    ++ numbered (codes " clock ") c.args.numbers.clock
    ++ flagged (codes " stop ") c.args.numbers.stop_flag ++ numbered (codes " next ") c.args.numbers.next_start)
    c.in_err-push_flagged-2.ensures (grind (arith, append_assoc)) (search (begins_itself, begins_more)))

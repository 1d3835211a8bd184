use Rattle.uv_text.proofs.Names.{rules, ◌∙◌, subst, append_assoc, ◌≡◌, ◌++◌, codes, arith, err_from_is_err_and, begins_itself, begins_more, writing, name_text, CutShort, numbered, outcome_text}
use Rattle.uv_text.proofs.Cuts.{cut}
use Rattle.uv_text.proofs.state.push_request.Goals as goal

pub returns-in_err-push_outcome : goal.returns-in_err-push_outcome
returns-in_err-push_outcome c =
    let exit = c.from_residual-in_err-push_outcome in
    let p = err_from_is_err_and exit.result exit.ensures.1 in
    rw (p.1) (cut (codes "work " ++ name_text c.args.script.now.names c.args.request.name ++ codes " ")
    c.in_err-push_outcome.ensures (grind (arith, append_assoc)) (search (begins_itself, begins_more)))

pub returns : goal.returns
returns c =
    let front = codes "work " ++ name_text c.args.script.now.names c.args.request.name ++ codes " "
    ++ outcome_text c.args.worker c.args.request.outcome
    ++ numbered (codes " ") c.args.request.task.rounds in
    let before : c.push_numbered.new.text.items ≡ c.args.text.now.items ++ front = grind (arith, append_assoc) in
    search (rules, writing, before, c.text.ensures.value)

pub returns-in_err-push_numbered : goal.returns-in_err-push_numbered
returns-in_err-push_numbered c =
    let exit = c.from_residual-in_err-push_numbered in
    let p = err_from_is_err_and exit.result exit.ensures.1 in
    rw (p.1) (cut (codes "work " ++ name_text c.args.script.now.names c.args.request.name ++ codes " "
    ++ outcome_text c.args.worker c.args.request.outcome)
    (subst (λ n. CutShort c.push_outcome.new.text.items (numbered (codes " ") n) c.push_numbered.new.text.items)
    (c.from.ensures ∙ c.rounds.ensures.value) c.in_err-push_numbered.ensures) (grind (arith, append_assoc)) (search (begins_itself, begins_more)))

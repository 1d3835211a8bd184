use Rattle.uv_text.proofs.Names.{rules, append_assoc, ◌++◌, codes, arith, numbered, stage_text, err_from_is_err_and, begins_itself, begins_more, mode_word}
use Rattle.uv_text.specs.State.{place_line}
use Rattle.uv_text.proofs.Cuts.{cut}
use Rattle.uv_text.proofs.state.push_run_place.Goals as goal

pub returns : goal.returns
unfolding place_line
returns c = search (rules, append_assoc)

pub returns-in_err-push_numbered : goal.returns-in_err-push_numbered
unfolding place_line
returns-in_err-push_numbered c =
    let exit = c.from_residual-in_err-push_numbered in
    let p = err_from_is_err_and exit.result exit.ensures.1 in
    rw (p.1) (cut (codes "place " ++ mode_word c.args.run.mode) c.in_err-push_numbered.ensures (grind (arith, append_assoc))
    (search (begins_itself, begins_more)))

pub returns-in_err-push_stage : goal.returns-in_err-push_stage
unfolding place_line
returns-in_err-push_stage c =
    let exit = c.from_residual-in_err-push_stage in
    let p = err_from_is_err_and exit.result exit.ensures.1 in
    rw (p.1) (cut (codes "place " ++ mode_word c.args.run.mode ++ numbered (codes " ") c.args.run.line ++ codes " ")
    c.in_err-push_stage.ensures (grind (arith, append_assoc)) (search (begins_itself, begins_more)))

pub returns-in_err-push_body : goal.returns-in_err-push_body
unfolding place_line
returns-in_err-push_body c =
    let exit = c.from_residual-in_err-push_body in
    let p = err_from_is_err_and exit.result exit.ensures.1 in
    rw (p.1) (cut (codes "place " ++ mode_word c.args.run.mode ++ numbered (codes " ") c.args.run.line ++ codes " " ++ stage_text c.args.run.stage)
    c.in_err-push_body.ensures (grind (arith, append_assoc)) (search (begins_itself, begins_more)))

use Rattle.uv_text.proofs.Names.{◌++◌, append_assoc, codes, arith, err_from_is_err_and, begins_itself, begins_more, first_line}
use Rattle.uv_text.specs.Recording.{script_part}
use Rattle.uv_text.proofs.Cuts.{cut}
use Rattle.uv_text.proofs.recording.push_script.Goals as goal

pub returns-in_err-push_lines : goal.returns-in_err-push_lines
unfolding script_part
returns-in_err-push_lines c =
    let exit = c.from_residual-in_err-push_lines in
    let p = err_from_is_err_and exit.result exit.ensures.1 in
    rw (p.1) (cut (first_line c.args.script.now ++ codes "\n") c.in_err-push_lines.ensures.text (grind (arith, append_assoc))
    (search (begins_itself, begins_more)))

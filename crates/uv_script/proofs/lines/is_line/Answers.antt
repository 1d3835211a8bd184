use Rattle.uv_script.proofs.ProofNames.{rules, ◌↔◌, IsTrue, same_from_decides, IsLine, is_line}
use Rattle.uv_script.proofs.Checks.{is_line_decides}
use Rattle.uv_script.proofs.lines.is_line.Goals as goal

pub returns-then-line-le256-clause-test : goal.returns-then-line-le256-clause-test
returns-then-line-le256-clause-test c =
    let rule : IsTrue c.all.result ↔ IsLine c.args.line.now = search rules in
    same_from_decides c.all.result (is_line c.args.line.now) rule (is_line_decides c.args.line.now)

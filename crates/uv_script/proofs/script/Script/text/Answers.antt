use Rattle.uv_script.proofs.ProofNames.{ap, ◌∙◌, ◌++◌}
use Rattle.uv_script.specs.Text.{script_text}
use Rattle.uv_script.proofs.ReadBack.{back}
use Rattle.uv_script.proofs.script.Script.text.Goals as goal

pub returns-clause-text : goal.returns-clause-text
returns-clause-text c =
    c.in_ok-push_lines.ensures.text ∙ ap (λ text. text ++ script_text c.args.self.now) c.new-text.ensures.items

pub returns-in_err-push_lines-clause-read_back : goal.returns-in_err-push_lines-clause-read_back
returns-in_err-push_lines-clause-read_back c = back c.args.self.now c.push_lines.ensures.read

pub returns-clause-read_back : goal.returns-clause-read_back
returns-clause-read_back c = back c.args.self.now c.push_lines.ensures.read

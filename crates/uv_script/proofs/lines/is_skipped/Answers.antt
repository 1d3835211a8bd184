use Rattle.uv_script.proofs.ProofNames.{◌≡◌, true, refl, rules, is_skipped}
use Rattle.uv_script.proofs.Checks.{is_skipped_decides}
use Rattle.uv_script.proofs.lines.is_skipped.Goals as goal

pub returns-in-empty-2-clause-rule : goal.returns-in-empty-2-clause-rule
returns-in-empty-2-clause-rule c =
    let test : is_skipped c.args.line.now ≡ true = search rules in
    (λ e. (is_skipped_decides c.args.line.now).0 test, λ skipped. refl)

use Rattle.uv_script.proofs.ProofNames.{◌↔◌, IsTrue, arith, common_steps, same_from_decides, IsName, is_name}
use Rattle.uv_script.proofs.Checks.{is_name_decides}
use Rattle.uv_script.proofs.words.is_name.Goals as goal

pub returns-then-rest-le31-clause-test : goal.returns-then-rest-le31-clause-test
returns-then-rest-le31-clause-test c =
    let rule : IsTrue c.all.result ↔ IsName c.args.field.now = grind (arith, common_steps) in
    same_from_decides c.all.result (is_name c.args.field.now) rule (is_name_decides c.args.field.now)

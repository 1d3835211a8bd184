use Rattle.uv_script.proofs.ProofNames.{◌≡◌, Some, arith, common_steps}
use Rattle.uv_script.specs.Reading.{init_of, kind_of}
use Rattle.uv_script.proofs.KindWords.{kind_of-some, kind_of-none}
use Rattle.uv_script.proofs.statement.init.Goals as goal

pub returns-in_err-kind : goal.returns-in_err-kind
unfolding init_of
returns-in_err-kind c = grind (arith, kind_of-none, common_steps)

pub returns : goal.returns
unfolding init_of
returns c =
    let kind : kind_of c.in_ok-next-2.field-0.now ≡ Some c.in_ok-kind.kind = kind_of-some _ _ c.in_ok-kind.ensures.some in
    grind (arith, common_steps)

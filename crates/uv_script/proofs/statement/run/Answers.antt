use Rattle.uv_script.proofs.ProofNames.{◌≡◌, Some, arith, common_steps}
use Rattle.uv_script.specs.Reading.{run_of, mode_of}
use Rattle.uv_script.proofs.KindWords.{mode_of-some, mode_of-none}
use Rattle.uv_script.proofs.statement.run.Goals as goal

pub returns-in_err-mode : goal.returns-in_err-mode
unfolding run_of
returns-in_err-mode c = grind (arith, mode_of-none, common_steps)

pub returns : goal.returns
unfolding run_of
returns c =
    let mode : mode_of c.in_ok-next.field-0.now ≡ Some c.in_ok-mode.mode = mode_of-some _ _ c.in_ok-mode.ensures.some in
    grind (arith, common_steps)

use Rattle.uv_script.proofs.ProofNames.{subst, rules, IsReadScript}
use Rattle.uv_script.proofs.Kept.{blank_read}
use Rattle.uv_script.proofs.script.Script.blank.Goals as goal

pub invariant_of-result : goal.invariant_of-result
invariant_of-result c = subst (IsReadScript 0) (search rules) blank_read

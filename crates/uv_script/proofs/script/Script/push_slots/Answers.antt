use Rattle.uv_script.proofs.ProofNames.{rules, append_assoc}
use Rattle.uv_script.proofs.script.Script.push_slots.Goals as goal

pub returns : goal.returns
returns c = search (rules, append_assoc)

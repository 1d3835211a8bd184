use Rattle.uv_state_key.proofs.Names.{arith}
use Rattle.uv_state_key.proofs.ComputedLemmas.{least_turn}
use Rattle.uv_state_key.proofs.bases.least_among.Goals as goal

pub loop-id-preserved : goal.loop-id-preserved
loop-id-preserved g c = grind (arith, least_turn)

use Rattle.uv_generations.proofs.Reached.{after_young}
use Rattle.uv_generations.proofs.laws.stays_young.Goals as goal

pub returns : goal.returns
returns c = after_young

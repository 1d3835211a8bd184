use Rattle.uv_generations.proofs.Slots.{next_renamed}
use Rattle.uv_generations.proofs.laws.generations_rename.Goals as goal

pub returns : goal.returns
returns c = next_renamed

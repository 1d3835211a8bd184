use Rattle.uv_slots.proofs.Naming.{next_moved}
use Rattle.uv_slots.proofs.swapped.names_change_places.Goals as goal

pub returns : goal.returns
returns c = λ p o s e alike. next_moved o p s e alike

use Rattle.uv_slots.proofs.Arranging.{next_arranged}
use Rattle.uv_slots.proofs.laws.slots_arrange.Goals as goal

pub returns : goal.returns
returns c = λ p o s e order within. next_arranged p o s e (record { order = order; within = within })

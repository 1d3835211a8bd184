use Rattle.uv_slots.proofs.Reached.{after_tidy}
use Rattle.uv_slots.proofs.laws.stays_tidy.Goals as goal

pub returns : goal.returns
returns c = after_tidy

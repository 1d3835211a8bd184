use Rattle.uv_stands.proofs.ProofNames.{image_of}
use Rattle.uv_stands.proofs.Slots.{used_there}
use Rattle.uv_stands.proofs.queries.is_in_use.Goals as goal

pub returns : goal.returns
returns c s h r = used_there (image_of c.args.memory.now) s c.holds_any.result h (rw c.slots.ensures at c.holds_any.ensures)

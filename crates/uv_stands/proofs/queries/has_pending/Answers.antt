use Rattle.uv_stands.proofs.ProofNames.{image_of}
use Rattle.uv_stands.proofs.Slots.{pending_there}
use Rattle.uv_stands.proofs.queries.has_pending.Goals as goal

pub returns : goal.returns
returns c s h r = pending_there (image_of c.args.memory.now) s c.holds_pending.result h (rw c.slots.ensures at c.holds_pending.ensures)

use Rattle.uv_stands.proofs.ProofNames.{image_of}
use Rattle.uv_stands.proofs.Naming.{no_handle, some_handle}
use Rattle.uv_stands.proofs.names.live_handle.Goals as goal

pub returns-in-Err-clause-is : goal.returns-in-Err-clause-is
returns-in-Err-clause-is c s h =
    no_handle (image_of c.args.memory.now) s c.args.name h c.in-Some.id c.in-Err.code c.in-Some.ensures (rw c.slots.ensures at c.in-Err.ensures.err)

pub returns-in-Ok-clause-is : goal.returns-in-Ok-clause-is
returns-in-Ok-clause-is c s h =
    some_handle (image_of c.args.memory.now) s c.args.name h c.in-Some.id c.in-Ok.handle c.in-Some.ensures
    (rw c.slots.ensures at c.in-Ok.ensures.ok.0)

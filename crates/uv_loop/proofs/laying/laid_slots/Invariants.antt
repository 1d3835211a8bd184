use Rattle.uv_loop.proofs.Names.{image_of}
use Rattle.uv_loop.proofs.Lies.{ShowsFirst}
use Rattle.uv_loop.proofs.laying.laid_slots.Given as goal

abbrev pub invariant-slots : goal.invariant-slots
invariant-slots l = ShowsFirst (image_of l.memory) l.number l.slots.items

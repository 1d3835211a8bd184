use Rattle.uv_memory.proofs.Names.{kept, image_of}
use Rattle.uv_memory.proofs.Steps.{ended}
use Rattle.uv_memory.proofs.memory.Memory.end_request.Goals as goal

pub invariant_of-self-in-Some : goal.invariant_of-self-in-Some
invariant_of-self-in-Some g c =
    (ended (image_of (kept c.self.inside)) c.collect.new.slots.image c.collect.new.self c.self.inside.heap.room _ _ _ _ c.self.invariant
    c.in-Some.ensures.some c.note_large.ensures).fit

pub returns-in-Some-clause-recorded : goal.returns-in-Some-clause-recorded
returns-in-Some-clause-recorded g c =
    rw (← c.self.view_is) (ended (image_of (kept c.self.inside)) c.collect.new.slots.image c.collect.new.self _ _ _ _ _ c.self.invariant
    c.in-Some.ensures.some c.note_large.ensures)

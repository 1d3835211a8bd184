use Rattle.uv_memory.proofs.Names.{kept, image_of}
use Rattle.uv_memory.proofs.Steps.{cancelled}
use Rattle.uv_memory.proofs.memory.Memory.cancel.Goals as goal

pub invariant_of-self-in-Ok : goal.invariant_of-self-in-Ok
invariant_of-self-in-Ok g c =
    (cancelled (image_of (kept c.self.inside)) c.cancel.new.slots.image c.self.inside.heap.room _ _ _ c.self.invariant c.in-Ok.ensures.ok
    c.note_medium.ensures).fit

pub returns-in-Ok-clause-recorded : goal.returns-in-Ok-clause-recorded
returns-in-Ok-clause-recorded g c =
    rw (← c.self.view_is) (cancelled (image_of (kept c.self.inside)) c.cancel.new.slots.image _ _ _ _ c.self.invariant c.in-Ok.ensures.ok
    c.note_medium.ensures)

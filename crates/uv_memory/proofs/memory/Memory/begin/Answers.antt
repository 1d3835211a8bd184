use Rattle.uv_memory.proofs.Names.{kept, image_of}
use Rattle.uv_memory.proofs.Steps.{begun}
use Rattle.uv_memory.proofs.memory.Memory.begin.Goals as goal

pub invariant_of-self : goal.invariant_of-self
invariant_of-self g c =
    (begun (image_of (kept c.self.inside)) c.begin-undo.new.slots.image c.self.inside.heap.room _ _ _ c.self.invariant c.begin-undo.ensures.begun
    c.note_small.ensures).fit

pub returns-clause-recorded : goal.returns-clause-recorded
returns-clause-recorded g c =
    rw (← c.self.view_is) (begun (image_of (kept c.self.inside)) c.begin-undo.new.slots.image _ _ _ _ c.self.invariant c.begin-undo.ensures.begun
    c.note_small.ensures)

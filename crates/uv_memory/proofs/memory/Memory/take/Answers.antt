use Rattle.uv_memory.proofs.Names.{kept, image_of}
use Rattle.uv_memory.proofs.Steps.{taken}
use Rattle.uv_memory.proofs.memory.Memory.take.Goals as goal

pub returns-clause-recorded : goal.returns-clause-recorded
returns-clause-recorded g c =
    rw (← c.self.view_is) (taken (image_of (kept c.self.inside)) c.start_work-undo.new.slots.image c.start_work-undo.new.self _ _ _ _ _
    c.self.invariant c.start_work-undo.ensures.taken c.note_small.ensures)

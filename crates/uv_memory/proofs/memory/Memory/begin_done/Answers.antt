use Rattle.uv_memory.proofs.Names.{kept, image_of}
use Rattle.uv_memory.proofs.Steps.{begun_done}
use Rattle.uv_memory.proofs.memory.Memory.begin_done.Goals as goal

pub returns-clause-recorded : goal.returns-clause-recorded
returns-clause-recorded g c =
    rw (← c.self.view_is) (begun_done (image_of (kept c.self.inside)) c.begin-undo.new.slots.image _ _ _ c.self.invariant c.begin-undo.ensures.begun
    c.note_small.ensures)

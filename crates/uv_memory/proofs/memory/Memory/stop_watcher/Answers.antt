use Rattle.uv_memory.proofs.Names.{kept, image_of}
use Rattle.uv_memory.proofs.Steps.{delisted}
use Rattle.uv_memory.proofs.memory.Memory.stop_watcher.Goals as goal

pub invariant_of-self : goal.invariant_of-self
invariant_of-self g c =
    (delisted (image_of (kept c.self.inside)) c.halt-undo.new.slots.image c.halt-undo.new.handles c.self.inside.heap.room _ _ _ _ _ _
    c.self.invariant c.halt-undo.ensures.stopped c.note_medium.ensures).fit

pub returns-clause-recorded : goal.returns-clause-recorded
returns-clause-recorded g c =
    rw (← c.self.view_is) (delisted (image_of (kept c.self.inside)) c.halt-undo.new.slots.image c.halt-undo.new.handles _ _ _ _ _ _ _
    c.self.invariant c.halt-undo.ensures.stopped c.note_medium.ensures)

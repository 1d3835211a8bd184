use Rattle.uv_memory.proofs.Names.{kept, image_of}
use Rattle.uv_memory.proofs.Fits.{list_not}
use Rattle.uv_memory.proofs.Steps.{enlisted}
use Rattle.uv_memory.proofs.memory.Memory.start_watcher.Goals as goal

pub invariant_of-self : goal.invariant_of-self
invariant_of-self g c =
    let h = c.enlist-undo.ensures.started in (enlisted (image_of (kept c.self.inside)) c.enlist-undo.new.slots.image c.enlist-undo.new.handles
    c.self.inside.heap.room _ _ _ _ _ _ c.self.invariant (list_not h.kind) h.enlisted c.note_medium.ensures).fit

pub returns-clause-recorded : goal.returns-clause-recorded
returns-clause-recorded g c =
    let h = c.enlist-undo.ensures.started in rw (← c.self.view_is) (enlisted (image_of (kept c.self.inside)) c.enlist-undo.new.slots.image
    c.enlist-undo.new.handles _ _ _ _ _ _ _ c.self.invariant (list_not h.kind) h.enlisted c.note_medium.ensures)

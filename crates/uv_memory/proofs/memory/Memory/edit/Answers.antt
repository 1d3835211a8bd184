use Rattle.uv_memory.proofs.Names.{kept, image_of}
use Rattle.uv_memory.proofs.Steps.{edited}
use Rattle.uv_memory.proofs.memory.Memory.edit.Goals as goal

pub invariant_of-self : goal.invariant_of-self
invariant_of-self g c =
    (edited (image_of (kept c.self.inside)) c.change-undo.new.slots.image c.change-undo.new.self c.self.inside.heap.room _ _ _ _ _ c.self.invariant
    (rw (← c.self.view_is) at c.requires.found) c.change-undo.ensures.changed c.note_medium.ensures).fit

pub returns-clause-recorded : goal.returns-clause-recorded
returns-clause-recorded g c =
    rw (← c.self.view_is) (edited (image_of (kept c.self.inside)) c.change-undo.new.slots.image c.change-undo.new.self _ _ _ _ _ _ c.self.invariant
    (rw (← c.self.view_is) at c.requires.found) c.change-undo.ensures.changed c.note_medium.ensures)

use Rattle.uv_memory.proofs.Names.{kept, image_of}
use Rattle.uv_memory.proofs.Steps.{finished}
use Rattle.uv_memory.proofs.memory.Memory.finish.Goals as goal

pub invariant_of-self : goal.invariant_of-self
invariant_of-self g c =
    (finished (image_of (kept c.self.inside)) c.hand_in-undo.new.slots.image c.hand_in-undo.new.self c.self.inside.heap.room _ _ _ _ _ _
    c.self.invariant c.hand_in-undo.ensures.finished c.note_small.ensures).fit

pub returns-clause-recorded : goal.returns-clause-recorded
returns-clause-recorded g c =
    rw (← c.self.view_is) (finished (image_of (kept c.self.inside)) c.hand_in-undo.new.slots.image c.hand_in-undo.new.self _ _ _ _ _ _ _
    c.self.invariant c.hand_in-undo.ensures.finished c.note_small.ensures)

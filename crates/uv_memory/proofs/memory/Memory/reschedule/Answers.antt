use Rattle.uv_memory.proofs.Names.{kept, image_of}
use Rattle.uv_memory.proofs.Steps.{rescheduled}
use Rattle.uv_memory.proofs.memory.Memory.reschedule.Goals as goal

pub invariant_of-self : goal.invariant_of-self
invariant_of-self g c =
    (rescheduled (image_of (kept c.self.inside)) c.reschedule-undo.new.parts.1.0.image c.reschedule-undo.new.parts.0 c.self.inside.heap.room
    c.reschedule-undo.new.parts.1.1.0 c.reschedule-undo.new.parts.1.1.1.0 _ _ _ _ c.self.invariant c.reschedule-undo.ensures.room
    c.reschedule-undo.ensures.changed c.note_timer.ensures).fit

pub returns-clause-recorded : goal.returns-clause-recorded
returns-clause-recorded g c =
    rw (← c.self.view_is) (rescheduled (image_of (kept c.self.inside)) c.reschedule-undo.new.parts.1.0.image c.reschedule-undo.new.parts.0 _
    c.reschedule-undo.new.parts.1.1.0 c.reschedule-undo.new.parts.1.1.1.0 _ _ _ _ c.self.invariant c.reschedule-undo.ensures.room
    c.reschedule-undo.ensures.changed c.note_timer.ensures)

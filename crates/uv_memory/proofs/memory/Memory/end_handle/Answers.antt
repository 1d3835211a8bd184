use Rattle.uv_memory.proofs.Names.{kept, image_of, counted_of}
use Rattle.uv_memory.proofs.Steps.{freed, freed_does}
use Rattle.uv_memory.proofs.memory.Memory.end_handle.Goals as goal

pub invariant_of-self : goal.invariant_of-self
invariant_of-self g c =
    (freed (image_of (kept c.self.inside)) c.take_closing.new.slots.image c.take_closing.new.self c.self.inside.heap.room
    _ _ _ _ _ c.self.invariant (rw (← c.self.view_is) at c.in_ok-id.ensures.some).handle c.take_closing.ensures.taken
    c.note_medium.ensures).fit

pub returns-clause-recorded : goal.returns-clause-recorded
returns-clause-recorded g c =
    rw (← c.self.view_is) (freed (image_of (kept c.self.inside)) c.take_closing.new.slots.image c.take_closing.new.self
    _ _ _ _ _ _ c.self.invariant (rw (← c.self.view_is) at c.in_ok-id.ensures.some).handle c.take_closing.ensures.taken
    c.note_medium.ensures)

pub returns-clause-does : goal.returns-clause-does
returns-clause-does g c =
    rw (← c.self.view_is) (freed_does (counted_of (image_of (kept c.self.inside))) _ _ _ _ _ _ _ (rw (← c.self.view_is) at
    c.in_ok-id.ensures.some).handle c.take_closing.ensures.taken c.note_medium.ensures)

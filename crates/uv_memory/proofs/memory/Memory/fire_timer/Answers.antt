use Rattle.uv_memory.proofs.Names.{kept, image_of}
use Rattle.uv_memory.proofs.Steps.{fired}
use Rattle.uv_memory.proofs.memory.Memory.fire_timer.Goals as goal

pub fire_one-requires-clause-set : goal.fire_one-requires-clause-set
fire_one-requires-clause-set g c d h first there repeats =
    record { room = (rw (← c.self.view_is) at c.requires.room) d first; start = rw (← c.self.view_is) at c.requires.starts }

pub invariant_of-self-in-Some : goal.invariant_of-self-in-Some
invariant_of-self-in-Some g c =
    let new = c.fire_one.new.parts in (fired (image_of (kept c.self.inside)) new.1.0.image new.0 c.self.inside.heap.room new.1.1.0 new.1.1.1.0 _ _ _
    c.self.invariant c.fire_one.ensures.room c.in-Some.ensures.some c.note_timer.ensures).fit

pub returns-in-Some-clause-recorded : goal.returns-in-Some-clause-recorded
returns-in-Some-clause-recorded g c =
    let new = c.fire_one.new.parts in rw (← c.self.view_is) (fired (image_of (kept c.self.inside)) new.1.0.image new.0 _ new.1.1.0 new.1.1.1.0 _ _ _
    c.self.invariant c.fire_one.ensures.room c.in-Some.ensures.some c.note_timer.ensures)

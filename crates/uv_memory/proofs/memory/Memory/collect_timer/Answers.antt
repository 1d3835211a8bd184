use Rattle.uv_memory.proofs.Names.{kept, image_of}
use Rattle.uv_memory.proofs.Steps.{collected}
use Rattle.uv_memory.proofs.memory.Memory.collect_timer.Goals as goal

pub invariant_of-self-in-Some : goal.invariant_of-self-in-Some
invariant_of-self-in-Some g c =
    let new = c.collect_one.new.parts in (collected (image_of (kept c.self.inside)) new.1.0.image new.0 c.self.inside.heap.room new.1.1.0
    new.1.1.1.0 _ _ _ c.self.invariant c.collect_one.ensures.room c.in-Some.ensures.some c.note_moved.ensures).fit

pub returns-in-Some-clause-recorded : goal.returns-in-Some-clause-recorded
returns-in-Some-clause-recorded g c =
    let new = c.collect_one.new.parts in rw (← c.self.view_is) (collected (image_of (kept c.self.inside)) new.1.0.image new.0 _ new.1.1.0
    new.1.1.1.0 _ _ _ c.self.invariant c.collect_one.ensures.room c.in-Some.ensures.some c.note_moved.ensures)

use Rattle.uv_memory.proofs.Names.{kept, image_of}
use Rattle.uv_memory.proofs.Steps.{queued}
use Rattle.uv_memory.proofs.memory.Memory.queue.Goals as goal

pub invariant_of-self-2 : goal.invariant_of-self-2
invariant_of-self-2 g c =
    (queued (image_of (kept c.self.inside)) c.queue.new.slots.image c.queue.new.self c.self.inside.heap.room _ _ _ _ c.self.invariant
    c.is_sound.ensures c.in_ok-id.ensures.ok c.note_small.ensures).fit

pub returns-clause-recorded : goal.returns-clause-recorded
returns-clause-recorded g c =
    rw (← c.self.view_is) (queued (image_of (kept c.self.inside)) c.queue.new.slots.image c.queue.new.self _ _ _ _ _ c.self.invariant
    c.is_sound.ensures c.in_ok-id.ensures.ok c.note_small.ensures)

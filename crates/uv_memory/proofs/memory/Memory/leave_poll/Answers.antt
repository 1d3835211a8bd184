use Rattle.uv_memory.proofs.Names.{kept, image_of}
use Rattle.uv_memory.proofs.Steps.{polled}
use Rattle.uv_memory.proofs.memory.Memory.leave_poll.Goals as goal

pub returns-clause-recorded : goal.returns-clause-recorded
returns-clause-recorded g c =
    rw (← c.self.view_is) (polled (image_of (kept c.self.inside)) c.begin-spliced.new.slots.image c.self.inside.clock _ _ _ c.self.invariant
    c.begin-spliced.ensures.begun c.note_small.ensures)

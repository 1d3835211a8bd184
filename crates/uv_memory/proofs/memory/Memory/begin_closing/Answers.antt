use Rattle.uv_memory.proofs.Names.{kept, image_of}
use Rattle.uv_memory.proofs.Steps.{begun_closing}
use Rattle.uv_memory.proofs.memory.Memory.begin_closing.Goals as goal

pub invariant_of-self : goal.invariant_of-self
invariant_of-self g c =
    (begun_closing (image_of (kept c.self.inside)) c.splice-undo.new.self.image c.self.inside.heap.room _ _ c.self.invariant
    c.splice-undo.ensures.spliced c.note_small.ensures).fit

pub returns-clause-recorded : goal.returns-clause-recorded
returns-clause-recorded g c =
    rw (← c.self.view_is) (begun_closing (image_of (kept c.self.inside)) c.splice-undo.new.self.image _ _ _ c.self.invariant
    c.splice-undo.ensures.spliced c.note_small.ensures)

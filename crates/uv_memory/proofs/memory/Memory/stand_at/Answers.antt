use Rattle.uv_memory.proofs.Names.{kept, image_of}
use Rattle.uv_memory.proofs.Rows.{stood}
use Rattle.uv_memory.proofs.memory.Memory.stand_at.Goals as goal

pub returns-clause-extended : goal.returns-clause-extended
returns-clause-extended g c =
    rw (← c.self.view_is) (stood c.self.inside.step_record (image_of (kept c.self.inside)) c.self.inside.heap.room c.args.place (rw (←
    c.self.view_is) at c.requires.can) c.self.invariant)

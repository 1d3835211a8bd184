use Rattle.uv_memory.proofs.memory.Memory.work_of.Goals as goal

pub returns-clause-err : goal.returns-clause-err
returns-clause-err g c = rw (← c.self.view_is) c.work_of.ensures.err

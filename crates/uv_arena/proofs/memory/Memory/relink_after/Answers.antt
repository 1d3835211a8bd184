use Rattle.uv_arena.proofs.ProofNames.{◌∙◌, memory_of}
use Rattle.uv_arena.proofs.Puts.{after_written, tail_written}
use Rattle.uv_arena.proofs.memory.Memory.relink_after.Goals as goal

pub returns-in-Some-clause-memory : goal.returns-in-Some-clause-memory
returns-in-Some-clause-memory g c = c.set_prev.ensures.memory
    ∙ after_written c.args.place.list c.args.place.after c.args.prev (memory_of c.args.self.now) c.in-Some.at c.in-Some.is

pub returns-in-None-clause-memory : goal.returns-in-None-clause-memory
returns-in-None-clause-memory g c = c.set_tail.ensures.memory
    ∙ tail_written c.args.place.list c.args.place.after c.args.prev (memory_of c.args.self.now) c.in-None.is

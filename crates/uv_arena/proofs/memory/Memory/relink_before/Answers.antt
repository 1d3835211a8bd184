use Rattle.uv_arena.proofs.ProofNames.{◌∙◌, memory_of}
use Rattle.uv_arena.proofs.Puts.{before_written, head_written}
use Rattle.uv_arena.proofs.memory.Memory.relink_before.Goals as goal

pub returns-in-Some-clause-memory : goal.returns-in-Some-clause-memory
returns-in-Some-clause-memory g c = c.set_next.ensures.memory
    ∙ before_written c.args.place.list c.args.place.before c.args.next (memory_of c.args.self.now) c.in-Some.at c.in-Some.is

pub returns-in-None-clause-memory : goal.returns-in-None-clause-memory
returns-in-None-clause-memory g c = c.set_head.ensures.memory
    ∙ head_written c.args.place.list c.args.place.before c.args.next (memory_of c.args.self.now) c.in-None.is

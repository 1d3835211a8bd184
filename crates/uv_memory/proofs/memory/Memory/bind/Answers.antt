use Rattle.uv_memory.proofs.Names.{arith, common_steps, kept, image_of}
use Rattle.uv_memory.proofs.Rows.{bound}
use Rattle.uv_memory.proofs.memory.Memory.bind.Goals as goal

pub returns-clause-extended : goal.returns-clause-extended
returns-clause-extended g c =
    rw (← c.self.view_is) (bound c.self.inside.step_record _ (image_of (kept c.self.inside)) _ c.args.name c.args.id _ _ c.bound.result
    c.bound.ensures (rw (← c.self.view_is) at c.requires.can) c.self.invariant (rw (← c.self.view_is) at c.requires.unnamed) (rw (← c.self.view_is)
    at c.requires.name) (grind (arith, common_steps)) (grind (arith, common_steps)) c.rename.ensures)

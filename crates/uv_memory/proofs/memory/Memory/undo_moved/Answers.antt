use Rattle.uv_memory.proofs.Names.{subst, rules, IsFit}
use Rattle.uv_memory.proofs.memory.Memory.undo_moved.Goals as goal

pub invariant_of-self : goal.invariant_of-self
invariant_of-self g c = subst (λ k. IsFit k) (search rules) c.requires.fit

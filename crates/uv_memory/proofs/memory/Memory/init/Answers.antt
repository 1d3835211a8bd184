use Rattle.uv_memory.proofs.Names.{kept, image_of}
use Rattle.uv_memory.proofs.Steps.{added, joined}
use Rattle.uv_memory.proofs.memory.Memory.init.Goals as goal

pub invariant_of-self-then-eq : goal.invariant_of-self-then-eq
invariant_of-self-then-eq g c =
    (joined (image_of (kept c.self.inside)) c.add.new.slots.image c.push_back.new.self.image c.add.new.self c.self.inside.heap.room _ _ _ _ _ _
    c.self.invariant c.in_ok-id.ensures.ok c.push_back.ensures.pushed c.note_small.ensures).fit

pub returns-then-eq-clause-recorded : goal.returns-then-eq-clause-recorded
returns-then-eq-clause-recorded g c =
    rw (← c.self.view_is) (joined (image_of (kept c.self.inside)) c.add.new.slots.image c.push_back.new.self.image c.add.new.self _ _ _ _ _ _ _
    c.self.invariant c.in_ok-id.ensures.ok c.push_back.ensures.pushed c.note_small.ensures)

pub invariant_of-self-else-eq : goal.invariant_of-self-else-eq
invariant_of-self-else-eq g c =
    (added (image_of (kept c.self.inside)) c.add.new.slots.image c.add.new.self c.self.inside.heap.room _ _ _ _ _ c.self.invariant
    c.in_ok-id.ensures.ok c.note_small-else-eq.ensures).fit

pub returns-else-eq-clause-recorded : goal.returns-else-eq-clause-recorded
returns-else-eq-clause-recorded g c =
    rw (← c.self.view_is) (added (image_of (kept c.self.inside)) c.add.new.slots.image c.add.new.self _ _ _ _ _ _ c.self.invariant
    c.in_ok-id.ensures.ok c.note_small-else-eq.ensures)

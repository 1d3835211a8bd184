use Rattle.uv_script.proofs.SameWork.{parts_read, written_over}
use Rattle.uv_script.proofs.ProofNames.{same_main, same_callbacks}
use Rattle.uv_script.proofs.script.Script.with_same_work.Goals as goal

pub invariant_of-self : goal.invariant_of-self
invariant_of-self c =
    parts_read c.self.inside.lines _ _ _ c.self.invariant
    (written_over same_main _ _ _ _ _ c.deref_mut.ensures.value c.deref_mut.ensures.len c.same_main.ensures)
    (written_over same_callbacks _ _ _ _ _ c.deref_mut-2.ensures.value c.deref_mut-2.ensures.len c.same_callbacks.ensures)

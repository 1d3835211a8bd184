use Rattle.uv_stands.proofs.ProofNames.{sym, subst, IsInOrder, image_of}
use Rattle.uv_stands.proofs.Ordered.{if_read}
use Rattle.uv_stands.proofs.order.timer_ids.Goals as goal

pub returns : goal.returns
returns c =
    if_read (λ ids. ids.items) c.ids_of.result (image_of c.args.memory.now) c.deref.result.now
    (subst (IsInOrder (image_of c.args.memory.now).heap) (sym c.deref.ensures.value) (rw c.heap.ensures at c.in_ok-entries.ensures))
    (rw c.slots.ensures at c.ids_of.ensures)

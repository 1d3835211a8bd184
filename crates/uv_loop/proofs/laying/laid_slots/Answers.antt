use Rattle.uv_loop.proofs.Names.{◌+◌, sym, subst, image_of}
use Rattle.uv_loop.proofs.Lies.{ShowsFirst, shows_more}
use Rattle.uv_loop.proofs.laying.laid_slots.Goals as goal

pub slots-preserved : goal.slots-preserved
slots-preserved c =
    subst (λ xs. ShowsFirst (image_of c.args.memory.now) (c.slots.number + 1) xs) (sym c.in_ok-push.ensures.items)
    (shows_more (image_of c.args.memory.now) c.slots.number c.slots.slots.items c.laid_slot.result c.slots.invariant c.laid_slot.ensures)

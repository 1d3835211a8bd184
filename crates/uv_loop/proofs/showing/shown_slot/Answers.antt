use Rattle.uv_loop.proofs.Names.{◌<◌, length, arith, image_of}
use Rattle.uv_loop.proofs.Same.{slot_shown}
use Rattle.uv_loop.proofs.showing.shown_slot.Goals as goal

pub returns : goal.returns
returns c s h =
    let within : c.args.number < length c.args.memory.now.slots.image.memory.row.items =
    (let used = rw c.slots-slots.ensures at c.used.ensures.used in let below = c.if-number-used.false in omega (arith, used, below)) in
    slot_shown (image_of c.args.memory.now) s h c.args.number c.slot_at.result within (rw c.slots-slots.ensures at c.slot_at.ensures)

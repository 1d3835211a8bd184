use Rattle.uv_loop.proofs.Names.{sym, ◌∙◌, image_of, held_there}
use Rattle.uv_loop.proofs.showing.shown.Goals as goal

pub returns : goal.returns
returns c s h = sym (held_there (image_of c.args.memory.now) s c.args.id h) ∙ sym (rw c.slots.ensures at c.get.ensures)

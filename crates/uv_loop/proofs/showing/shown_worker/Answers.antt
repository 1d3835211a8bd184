use Rattle.uv_loop.proofs.Names.{sym, ◌∙◌, image_of}
use Rattle.uv_loop.proofs.Workers.{listed_unrun}
use Rattle.uv_loop.proofs.showing.shown_worker.Goals as goal

pub returns-then-on_list : goal.returns-then-on_list
returns-then-on_list c s h =
    listed_unrun (image_of c.args.memory.now) s c.args.id h c.is_fit.ensures
    (sym (rw c.slots.ensures at c.on_list.ensures.value) ∙ c.if-on_list.true)

use Rattle.uv_loop.proofs.Names.{◌≡◌, ◌∙◌, length, held, image_of}
use Rattle.uv_loop.proofs.Same.{slots_long}
use Rattle.uv_loop.proofs.Courses.{asked}
use Rattle.uv_loop.proofs.machine.ArenaLoopMachine.used.Goals as goal

pub returns : goal.returns
returns c =
    asked _ _ _ _ (held c.self.inside.memory) _ c.self.view_is c.self.invariant
    (λ s. c.used.result ≡ length s.arena.slots) (λ s h. (rw c.slots.ensures at c.used.ensures.used) ∙ slots_long (image_of c.self.inside.memory) s h)

use Rattle.uv_loop.proofs.Names.{◌≡◌, ap, ◌∙◌, Slots, Content, held}
use Rattle.uv_loop.proofs.Courses.{asked}
use Rattle.uv_loop.proofs.machine.ArenaLoopMachine.free.Goals as goal

pub returns-clause-free : goal.returns-clause-free
returns-clause-free c =
    asked _ _ _ _ (held c.self.inside.memory) _ c.self.view_is c.self.invariant
    (λ s. c.in_ok-free.free.items ≡ s.arena.free) (λ s h. (rw c.slots.ensures at c.in_ok-free.ensures) ∙ ap (λ (q : Slots Content). q.free) h.slots)

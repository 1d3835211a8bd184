use Rattle.uv_loop.proofs.Names.{◌≡◌, ◌-◌, ap, ◌∙◌, Slots, Content, held}
use Rattle.uv_loop.proofs.Courses.{asked}
use Rattle.uv_loop.proofs.machine.ArenaLoopMachine.unused.Goals as goal

pub returns : goal.returns
returns c =
    asked _ _ _ _ (held c.self.inside.memory) _ c.self.view_is c.self.invariant
    (λ s. c.capacity.result - c.used.result ≡ s.arena.unused)
    (λ s h. (λ l. (rw c.slots-slots.ensures at c.capacity.ensures) l - (rw c.slots-slots.ensures at c.used.ensures.used) l)
    ∙ ap (λ (q : Slots Content). q.unused) h.slots)

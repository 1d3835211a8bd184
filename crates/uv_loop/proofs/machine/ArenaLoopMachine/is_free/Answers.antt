use Rattle.uv_loop.proofs.Names.{◌≡◌, ◌==◌, ap, ◌∙◌, list_any, Slots, is_free, Content, held}
use Rattle.uv_loop.proofs.Courses.{asked}
use Rattle.uv_loop.proofs.machine.ArenaLoopMachine.is_free.Goals as goal

pub returns : goal.returns
returns c =
    asked _ _ _ _ (held c.self.inside.memory) _ c.self.view_is c.self.invariant
    (λ s. c.is_free.result ≡ is_free s c.args.number)
    (λ s h. (rw c.slots.ensures at c.is_free.ensures) ∙ ap (λ (q : Slots Content). list_any (λ n. n == c.args.number) q.free) h.slots)

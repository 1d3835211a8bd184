use Rattle.uv_loop.proofs.Names.{◌≡◌, ◌∙◌, held, place_is}
use Rattle.uv_loop.proofs.Courses.{asked}
use Rattle.uv_loop.proofs.machine.ArenaLoopMachine.place.Goals as goal

pub returns : goal.returns
returns c =
    asked _ _ _ _ (held c.self.inside.memory) _ c.self.view_is c.self.invariant (λ s. c.place-2.result ≡ s.place)
    (λ s h. c.place-2.ensures ∙ c.place.ensures ∙ (place_is h))

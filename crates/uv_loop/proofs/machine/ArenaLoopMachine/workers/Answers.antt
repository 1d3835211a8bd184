use Rattle.uv_loop.proofs.Names.{◌≡◌, Option, List, length, ap, ◌∙◌, Id, held, running_is}
use Rattle.uv_loop.proofs.Courses.{asked}
use Rattle.uv_loop.proofs.machine.ArenaLoopMachine.workers.Goals as goal

pub returns : goal.returns
returns c =
    asked _ _ _ _ (held c.self.inside.memory) _ c.self.view_is c.self.invariant
    (λ s. length c.workers.result.now ≡ length s.running)
    (λ s h. ap (λ (rs : List (Option Id)). length rs) ((rw c.requests.ensures at c.workers.ensures) ∙ (running_is h)))

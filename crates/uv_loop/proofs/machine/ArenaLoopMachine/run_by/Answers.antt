use Rattle.uv_loop.proofs.Names.{◌≡◌, option_and_then, slice_get, ap, ◌∙◌, run_by, held, running_is}
use Rattle.uv_loop.proofs.Courses.{asked}
use Rattle.uv_loop.proofs.machine.ArenaLoopMachine.run_by.Goals as goal

pub returns : goal.returns
returns c =
    asked _ _ _ _ (held c.self.inside.memory) _ c.self.view_is c.self.invariant
    (λ s. c.run_at.result ≡ run_by s c.args.worker)
    (λ s h. c.run_at.ensures
    ∙ ap (λ rs. option_and_then (λ run. run) (slice_get rs c.args.worker)) ((rw c.requests.ensures at c.workers.ensures) ∙ (running_is h)))

use Rattle.uv_loop.proofs.Names.{◌≡◌, sym, worker_of, held}
use Rattle.uv_loop.proofs.Courses.{asked}
use Rattle.uv_loop.proofs.machine.ArenaLoopMachine.worker_of.Goals as goal

pub returns : goal.returns
returns c =
    asked _ _ _ _ (held c.self.inside.memory) _ c.self.view_is c.self.invariant
    (λ s. c.shown_worker.result ≡ worker_of s c.args.id) (λ s h. sym (c.shown_worker.ensures s h))

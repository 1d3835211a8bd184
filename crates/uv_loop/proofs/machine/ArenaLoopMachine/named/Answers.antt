use Rattle.uv_loop.proofs.Names.{◌≡◌, sym, held}
use Rattle.uv_model.specs.State.{named}
use Rattle.uv_loop.proofs.Courses.{asked}
use Rattle.uv_loop.proofs.machine.ArenaLoopMachine.named.Goals as goal

pub returns : goal.returns
returns c =
    asked _ _ _ _ (held c.self.inside.memory) _ c.self.view_is c.self.invariant
    (λ s. c.shown_name.result ≡ named s c.args.name) (λ s h. sym (c.shown_name.ensures s h))

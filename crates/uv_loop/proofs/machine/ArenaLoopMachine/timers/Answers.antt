use Rattle.uv_loop.proofs.Names.{◌≡◌, timer_ids, held}
use Rattle.uv_loop.proofs.Courses.{asked_each}
use Rattle.uv_loop.proofs.machine.ArenaLoopMachine.timers.Goals as goal

pub returns-clause-timers : goal.returns-clause-timers
returns-clause-timers c =
    asked_each _ _ _ _ (held c.self.inside.memory) _ c.self.view_is c.self.invariant (λ s. c.in_ok-ids.ids.items ≡ timer_ids s) c.in_ok-ids.ensures

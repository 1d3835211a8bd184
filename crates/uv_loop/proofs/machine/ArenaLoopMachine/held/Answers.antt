use Rattle.uv_loop.proofs.Names.{◌≡◌, sym, held}
use Rattle.uv_records.specs.Slots as plain
use Rattle.uv_loop.proofs.Courses.{asked}
use Rattle.uv_loop.proofs.machine.ArenaLoopMachine.held.Goals as goal

pub returns : goal.returns
returns c =
    asked _ _ _ _ (held c.self.inside.memory) _ c.self.view_is c.self.invariant
    (λ s. c.shown.result ≡ plain.held s.arena.slots c.args.id) (λ s h. sym (c.shown.ensures s h))

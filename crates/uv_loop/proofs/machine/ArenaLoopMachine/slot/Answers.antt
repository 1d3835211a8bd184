use Rattle.uv_loop.proofs.Names.{◌≡◌, slice_get, sym, held}
use Rattle.uv_loop.proofs.Courses.{asked}
use Rattle.uv_loop.proofs.machine.ArenaLoopMachine.slot.Goals as goal

pub returns : goal.returns
returns c =
    asked _ _ _ _ (held c.self.inside.memory) _ c.self.view_is c.self.invariant
    (λ s. c.shown_slot.result ≡ slice_get s.arena.slots c.args.number) (λ s h. sym (c.shown_slot.ensures s h))

use Rattle.uv_loop.proofs.Names.{◌≡◌, sym, ◌∙◌, members, held}
use Rattle.uv_loop.proofs.Courses.{asked}
use Rattle.uv_loop.proofs.machine.ArenaLoopMachine.members.Goals as goal

pub returns-clause-members : goal.returns-clause-members
returns-clause-members c =
    asked _ _ _ _ (held c.self.inside.memory) _ c.self.view_is c.self.invariant
    (λ s. c.in_ok-ids.ids.items ≡ members s c.args.list) (λ s h. (rw c.slots.ensures at c.in_ok-ids.ensures) ∙ sym (h.lists c.args.list))

use Rattle.uv_find.proofs.Names.{refl, ◌∙◌, ap₂, ap, AllocError, Made, kept_after, choice_of}
use Rattle.uv_model.specs.After.{after}
use Rattle.uv_find.specs.declared.orders.Was.TheVariants as was
use Rattle.uv_find.proofs.Taking.{takes_one, taken_searched}
use Rattle.uv_find.proofs.orders.Orders.take_recorded.Goals as goal

pub returns-in-Some : goal.returns-in-Some
returns-in-Some g c =
    let i = c.self.inside in
    let goes = rw c.in-Some.is at c.in_ok-make_move.ensures in
    let m = c.in-Some.moved in
    let state = ap₂ after c.machine.ensures.program c.machine.ensures.steps in
    let kept = c.kept_after-self-inside.ensures
    ∙ ap (λ s. kept_after i.terms.recorded.items i.terms.takes.items i.terms.question m.choice.kept m.choice.event s m.outcome.seen) state in
    let made : Made = record { was = was.All c.replace-left.result; kept = i.kept } in
    rw (← c.self.view_is, c.push_reserved.ensures.items, c.in_ok-reserve.ensures.items, c.replace-left.ensures.after, kept)
    (takes_one AllocError i.session c.make_move.new.session i.terms i.left.items i.kept i.made.items c.args.number (choice_of m.choice) m.outcome made
    (ap (λ v. v.items) c.replace-left.ensures.value) refl goes)

pub invariant_of-self-in-Some : goal.invariant_of-self-in-Some
invariant_of-self-in-Some g c =
    let i = c.self.inside in
    let goes = rw c.in-Some.is at c.in_ok-make_move.ensures in
    let made : Made = record { was = was.All c.replace-left.result; kept = i.kept } in
    rw (c.push_reserved.ensures.items, c.in_ok-reserve.ensures.items)
    (taken_searched g.M.Machine.BackWantsMemory i.session c.make_move.new.session i.terms i.left.items i.kept i.made.items c.args.number
    (choice_of c.in-Some.moved.choice) c.in-Some.moved.outcome.seen made c.self.invariant (rw (← c.self.view_is) at c.requires.room) goes)

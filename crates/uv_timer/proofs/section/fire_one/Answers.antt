use Rattle.uv_timer.proofs.Names.{◌<◌, ◌^◌, ◌-◌, IfSome, sym, ap, ◌∙◌, subst}
use Rattle.uv_timer.proofs.Firsts.{ready_is}
use Rattle.uv_timer.proofs.Repeating.{firing_from, firing_due}
use Rattle.uv_timer.proofs.section.fire_one.Goals as goal

pub reschedule-requires-clause-found : goal.reschedule-requires-clause-found
reschedule-requires-clause-found g c =
    rw (ap (λ change. change.from) c.firing-change.ensures ∙ firing_from c.args.parts.times.now c.in-Ok.handle) c.in-Ok.ensures.ok.0

pub reschedule-requires-clause-room : goal.reschedule-requires-clause-room
reschedule-requires-clause-room g c =
    subst (λ change. IfSome change.due (λ _. c.in-Some.id.slot < c.args.parts.heap.now.room)) (sym c.firing-change.ensures)
    (firing_due c.args.parts.times.now c.in-Ok.handle
    (λ repeats. (c.requires.set c.in-Some.id c.in-Ok.handle c.in-Some.ensures.some c.in-Ok.ensures.ok.0 repeats).room))

pub reschedule-requires-clause-starts : goal.reschedule-requires-clause-starts
reschedule-requires-clause-starts g c =
    subst (λ change. IfSome change.due (λ _. c.args.parts.times.now.next_start < 2 ^ 64 - 1)) (sym c.firing-change.ensures)
    (firing_due c.args.parts.times.now c.in-Ok.handle
    (λ repeats. (c.requires.set c.in-Some.id c.in-Ok.handle c.in-Some.ensures.some c.in-Ok.ensures.ok.0 repeats).start))

pub returns-in-Ok-clause-which : goal.returns-in-Ok-clause-which
returns-in-Ok-clause-which g c =
    ready_is g.T.HoldsHandle.held_record c.args.parts.slots.now.image c.in-Some.id c.in-Ok.handle c.in-Some.ensures.some c.in-Ok.ensures.ok.0

use Rattle.uv_loop.proofs.Names.{held, image_of, event_of, events_of, sym, ◌∙◌, length-map, at_place}
use Rattle.uv_loop.proofs.Courses.{course_length, course_dropped, course_shorter, drops}
use Rattle.uv_loop.proofs.Told.{events_take}
use Rattle.uv_loop.proofs.machine.ArenaLoopMachine.back.Goals as goal

pub pop-place-requires-clause-each : goal.pop-place-requires-clause-each
pop-place-requires-clause-each c =
    let seen = c.self.inside.steps.seen.items in
    sym (course_length c.self.inside.script (events_of seen) seen c.self.inside.steps.trail.records (held c.self.inside.memory) c.self.invariant
    ∙ length-map seen event_of)

pub unwind_at-requires : goal.unwind_at-requires
unwind_at-requires c =
    (course_dropped c.self.inside.script _ c.self.inside.steps.seen.items c.self.inside.steps.trail.records
    _ (held c.self.inside.memory) (at_place c.pop-place.result c.pop-place.new.last) c.pop-place.ensures.records c.self.invariant).0

pub invariant_of-self : goal.invariant_of-self
invariant_of-self c =
    let r = at_place c.pop-place.result c.pop-place.new.last in
    course_shorter c.self.inside.script _ (events_of c.pop-place.new.self.seen.items) c.self.inside.steps.seen.items
    c.pop-place.new.self.seen.items c.self.inside.steps.trail.records c.pop-place.new.self.trail.records (held c.self.inside.memory)
    (held c.unwind_at.new.self) r c.pop-place.ensures.records (events_take _ _ _ c.pop-place.ensures.seen) c.pop-place.ensures.seen
    c.unwind_at.ensures.image c.unwind_at.ensures.room c.self.invariant

pub returns-clause-drops : goal.returns-clause-drops
returns-clause-drops c =
    let r = at_place c.pop-place.result c.pop-place.new.last in
    drops c.self.inside.script _ c.self.inside.steps.seen.items c.self.inside.steps.trail.records
    (held c.self.inside.memory) c.args.self.now c.self.view_is c.self.invariant (events_of c.pop-place.new.self.seen.items)
    c.pop-place.new.self.trail.records r (image_of c.unwind_at.new.self) _ c.pop-place.ensures.records
    (events_take _ _ _ c.pop-place.ensures.seen) c.unwind_at.ensures.image c.unwind_at.ensures.pieces

pub returns-clause-answer : goal.returns-clause-answer
returns-clause-answer c =
    let r = at_place c.pop-place.result c.pop-place.new.last in
    let d = drops c.self.inside.script _ c.self.inside.steps.seen.items c.self.inside.steps.trail.records
    (held c.self.inside.memory) c.args.self.now c.self.view_is c.self.invariant (events_of c.pop-place.new.self.seen.items)
    c.pop-place.new.self.trail.records r (image_of c.unwind_at.new.self) _ c.pop-place.ensures.records
    (events_take _ _ _ c.pop-place.ensures.seen) c.unwind_at.ensures.image c.unwind_at.ensures.pieces in
    (d.0, d.1)

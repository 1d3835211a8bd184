use Rattle.uv_loop.proofs.Names.{sym, ap, arith, held, outside_event}
use Rattle.uv_loop.proofs.Courses.{answers_refusing}
use Rattle.uv_loop.proofs.Ready.{granted, course_ready}
use Rattle.uv_loop.proofs.Told.{few_events}
use Rattle.uv_loop.proofs.Begun.{begun, unfinished, stands, takes}
use Rattle.uv_loop.proofs.arena_loop.ArenaLoop.meet.Goals as goal

pub returns-in-Err-clause-answer : goal.returns-in-Err-clause-answer
returns-in-Err-clause-answer c =
    let few = few_events c.self.inside.steps.seen.items (omega arith) in
    answers_refusing c.self.inside.script _ _ c.self.inside.steps.trail.records (held c.self.inside.memory) _
    c.self.view_is c.self.invariant (outside_event c.args.outside) few _
    c.in-Err.why c.in-Err.ensures.refusal (ap (λ z. z.standing) (sym c.self.view_is))

-- ---- there is no memory

pub returns-then-is_err-clause-answer : goal.returns-then-is_err-clause-answer
returns-then-is_err-clause-answer c =
    unfinished (outside_event c.args.outside) c.self.invariant c.self.view_is c.make_room.ensures.same (omega arith) c.in-Ok.ensures.refusal

pub invariant_of-self : goal.invariant_of-self
invariant_of-self c = begun (outside_event c.args.outside) c.self.invariant c.self.view_is c.make_room.ensures.same

-- ---- the step is done

pub act-line-requires-clause-ready : goal.act-line-requires-clause-ready
act-line-requires-clause-ready c =
    course_ready _ _ _ _ (held c.make_room.new.memory)
    (begun (outside_event c.args.outside) c.self.invariant c.self.view_is c.make_room.ensures.same)
    c.is_sound.ensures.arena (granted c.make_room.result c.make_room.ensures.heap c.if-is_err.ensures.negation)

pub invariant_of-self-2 : goal.invariant_of-self-2
invariant_of-self-2 c =
    stands (outside_event c.args.outside) c.self.invariant c.self.view_is c.make_room.ensures.same (held c.act-line.new.memory) (omega arith)
    (rw c.in-Ok.ensures.event at c.act-line.ensures.leads) (rw c.step_record.ensures at c.push.ensures) c.act-line.ensures.returns

pub returns-clause-answer : goal.returns-clause-answer
returns-clause-answer c =
    takes (outside_event c.args.outside) c.self.invariant c.self.view_is c.make_room.ensures.same (held c.act-line.new.memory) (omega arith)
    (rw c.in-Ok.ensures.event at c.act-line.ensures.leads) (rw c.step_record.ensures at c.push.ensures) c.act-line.ensures.returns

use Rattle.uv_loop.proofs.Names.{sym, subst, ap, arith, Loop, held, IsCourse, events_of}
use Rattle.uv_loop.proofs.Courses.{answers_refusing}
use Rattle.uv_loop.proofs.Ready.{granted, course_ready, course_last, course_clear}
use Rattle.uv_loop.proofs.Told.{few_events}
use Rattle.uv_loop.proofs.Begun.{begun, unfinished, stands, takes}
use Rattle.uv_loop.proofs.arena_loop.ArenaLoop.go_on_wide.Goals as goal

pub returns-in-Some-clause-answer : goal.returns-in-Some-clause-answer
returns-in-Some-clause-answer c =
    let few = few_events c.self.inside.steps.seen.items (omega arith) in
    answers_refusing c.self.inside.script _ _ c.self.inside.steps.trail.records (held c.self.inside.memory) _
    c.self.view_is c.self.invariant Loop few _ c.in-Some.why c.in-Some.ensures.why (ap (λ z. z.standing) (sym c.self.view_is))

-- ---- there is no memory

pub returns-then-is_err-clause-answer : goal.returns-then-is_err-clause-answer
returns-then-is_err-clause-answer c =
    unfinished Loop c.self.invariant c.self.view_is c.make_room.ensures.same (omega arith) c.in-None.ensures.why

pub invariant_of-self : goal.invariant_of-self
invariant_of-self c = begun Loop c.self.invariant c.self.view_is c.make_room.ensures.same

pub invariant_of-self-in_default : goal.invariant_of-self-in_default
invariant_of-self-in_default c =
    let steps = c.make_room.new.steps in
    subst (λ h. IsCourse c.self.inside.script (events_of steps.seen.items) steps.seen.items steps.trail.records h)
    (sym c.in_default.ensures.memory.1) (begun Loop c.self.invariant c.self.view_is c.make_room.ensures.same)

pub returns-in_default-clause-answer : goal.returns-in_default-clause-answer
returns-in_default-clause-answer c =
    unfinished Loop c.self.invariant c.self.view_is c.make_room.ensures.same (omega arith) c.in-None.ensures.why

-- ---- the step is done

pub turn-requires-clause-ready : goal.turn-requires-clause-ready
turn-requires-clause-ready c =
    course_ready _ _ _ _ (held c.make_room.new.memory) (begun Loop c.self.invariant c.self.view_is c.make_room.ensures.same)
    c.is_sound.ensures.arena (granted c.make_room.result c.make_room.ensures.heap c.if-is_err.ensures.negation)

pub turn-requires-clause-last : goal.turn-requires-clause-last
turn-requires-clause-last c = course_last _ _ _ _ _ (begun Loop c.self.invariant c.self.view_is c.make_room.ensures.same)

pub turn-requires-clause-clear : goal.turn-requires-clause-clear
turn-requires-clause-clear c = course_clear _ _ _ _ _ (begun Loop c.self.invariant c.self.view_is c.make_room.ensures.same)

pub invariant_of-self-2 : goal.invariant_of-self-2
invariant_of-self-2 c =
    stands Loop c.self.invariant c.self.view_is c.make_room.ensures.same (held c.turn.new.memory) (omega arith) c.in-Ok.ensures.turns.1
    (rw c.step_record.ensures at c.push.ensures) c.in-Ok.ensures.turns.0

pub returns-clause-answer : goal.returns-clause-answer
returns-clause-answer c =
    takes Loop c.self.invariant c.self.view_is c.make_room.ensures.same (held c.turn.new.memory) (omega arith) c.in-Ok.ensures.turns.1
    (rw c.step_record.ensures at c.push.ensures) c.in-Ok.ensures.turns.0

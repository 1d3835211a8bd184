use Rattle.uv_loop.proofs.Names.{held, events_of}
use Rattle.uv_loop.proofs.Courses.{course_new}
use Rattle.uv_loop.proofs.Simulation.{fresh_stands}
use Rattle.uv_loop.proofs.Told.{events_same}
use Rattle.uv_loop.proofs.machine.ArenaLoopMachine.begin.Goals as goal

pub invariant_of-result : goal.invariant_of-result
invariant_of-result c =
    let is = c.in-Ok.ensures.image in
    course_new c.args.script (events_of c.new.result.seen.items) c.new.result.seen.items c.new.result.trail.records (held c.in-Ok.memory)
    (events_same c.new.ensures.seen) c.new.ensures.seen c.new.ensures.records c.in-Ok.ensures.fit
    is (fresh_stands c.args.script)

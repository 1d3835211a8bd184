use Rattle.uv_sections.proofs.Names.{Handle, held, image_of}
use Rattle.uv_sections.proofs.Called.{few_calls, due_goes}
use Rattle.uv_sections.proofs.DueFirst.{none_collects}
use Rattle.uv_sections.proofs.FromHeap.{first_called}
use Rattle.uv_sections.proofs.timers.call_from_heap.Goals as goal

pub begin_body-requires-clause-few : goal.begin_body-requires-clause-few
begin_body-requires-clause-few c =
    few_calls c.reschedule.new.self.step_record (held c.args.memory.now) (held c.reschedule.new.self) c.requires.ready
    c.reschedule.ensures.recorded Handle c.in-Some.handle.name

pub returns-in-None-clause-none : goal.returns-in-None-clause-none
returns-in-None-clause-none c = none_collects (image_of c.args.memory.now) c.is_sound.ensures.heap
    (rw (c.slots.ensures, c.heap.ensures, c.times.ensures) at c.in-None.ensures.none)

pub returns-in-Some-clause-goes : goal.returns-in-Some-clause-goes
returns-in-Some-clause-goes c =
    let did = c.reschedule.ensures in
    let calls = first_called c.reschedule.new.self.step_record (held c.args.memory.now) (held c.reschedule.new.self) c.in-Some.id c.in-Some.handle
    _ c.is_fit.ensures did.frame did.does (rw c.times-in-Some.ensures at c.again-change.ensures)
    (rw (c.slots.ensures, c.heap.ensures, c.times.ensures) at c.in-Some.ensures.some) in
    rw (c.call.ensures) (due_goes c.args.script.now c.args.run c.args.part (image_of c.args.memory.now) (image_of c.reschedule.new.self)
    (image_of c.begin_body.new.memory) c.in-Some.id c.in-Some.handle.name calls c.begin_body.ensures.calls)

use Rattle.uv_sections.proofs.Names.{Handle, held, image_of}
use Rattle.uv_sections.proofs.Called.{few_calls, fire_goes}
use Rattle.uv_sections.proofs.Fires.{timer_fires, none_fires}
use Rattle.uv_sections.proofs.timers.call_timer.Goals as goal

pub begin_body-requires-clause-few : goal.begin_body-requires-clause-few
begin_body-requires-clause-few c =
    few_calls c.fire_timer.new.self.step_record (held c.args.memory.now) (held c.fire_timer.new.self) c.requires.ready
    c.in-Some.ensures.recorded Handle c.in-Ok.handle.name

pub returns-in-None-clause-none : goal.returns-in-None-clause-none
returns-in-None-clause-none c = none_fires (image_of c.args.memory.now) c.in-None.ensures.none.0

pub returns-in-Ok-clause-goes : goal.returns-in-Ok-clause-goes
returns-in-Ok-clause-goes c =
    let did = c.in-Some.ensures in
    let fires = timer_fires (held c.args.memory.now) (held c.fire_timer.new.self) c.in-Some.id _ did.does.does did.frame c.in-Ok.handle
    (rw c.slots.ensures at c.in-Ok.ensures.ok.0) in
    rw (c.call.ensures) (fire_goes c.args.script.now c.args.run c.args.part (image_of c.args.memory.now) (image_of c.fire_timer.new.self)
    (image_of c.begin_body.new.memory) c.in-Some.id c.in-Ok.handle.name fires c.begin_body.ensures.calls)

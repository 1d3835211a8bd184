use Rattle.uv_sections.proofs.Names.{Handle, held, image_of}
use Rattle.uv_sections.proofs.Called.{few_calls, walk_goes}
use Rattle.uv_sections.proofs.walking.walk.Goals as goal

pub begin_body-requires-clause-few : goal.begin_body-requires-clause-few
begin_body-requires-clause-few c =
    few_calls c.move_on.new.memory.step_record (held c.args.memory.now) (held c.move_on.new.memory) c.requires.ready c.in-Some.ensures.recorded Handle
    c.in-Some.name

pub returns-in-Some-clause-goes : goal.returns-in-Some-clause-goes
returns-in-Some-clause-goes c s h reached =
    rw (c.call.ensures) (walk_goes c.args.script.now c.args.run.now (image_of c.move_on.new.memory) (image_of c.begin_body.new.memory) s
    c.args.kind c.in-Some.id
    c.in-Some.name _ (c.in-Some.ensures.moved s h reached) c.requires.other c.begin_body.ensures.calls)

use Rattle.uv_sections.proofs.Names.{Handle, held, image_of}
use Rattle.uv_sections.proofs.Called.{few_calls, io_goes}
use Rattle.uv_sections.proofs.calling.call_io.Goals as goal

pub begin_body-requires-clause-few : goal.begin_body-requires-clause-few
begin_body-requires-clause-few c =
    few_calls c.polled-run.new.memory.step_record (held c.args.memory.now) (held c.polled-run.new.memory) c.requires.ready
    c.polled-run.ensures.recorded Handle c.args.name

pub returns-clause-goes : goal.returns-clause-goes
returns-clause-goes c =
    io_goes c.args.script.now c.args.run c.polled-run.result (image_of c.args.memory.now) (image_of c.polled-run.new.memory)
    (image_of c.begin_body.new.memory) c.args.id c.args.name c.polled-run.ensures.run c.polled-run.ensures.stands c.begin_body.ensures.calls

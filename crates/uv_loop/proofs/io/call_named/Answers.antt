use Rattle.uv_loop.proofs.Names.{image_of}
use Rattle.uv_loop.proofs.CallsOfIo.{io_leads}
use Rattle.uv_loop.proofs.io.call_named.Goals as goal

pub returns-clause-leads : goal.returns-clause-leads
returns-clause-leads c =
    io_leads c.args.script.now (image_of c.args.memory.now) (image_of c.call_io.new.memory) c.args.run c.args.name c.args.id c.call_io.result
    c.requires.may c.call_io.ensures.line c.call_io.ensures.goes

use Rattle.uv_loop.proofs.Names.{image_of}
use Rattle.uv_loop.proofs.Events.{send_leads}
use Rattle.uv_loop.proofs.sending.send_to.Goals as goal

pub returns-clause-leads : goal.returns-clause-leads
returns-clause-leads c p =
    send_leads p (image_of c.args.memory.now) (image_of c.send.new.memory) c.args.name c.send.result c.requires.name c.send.ensures.sends

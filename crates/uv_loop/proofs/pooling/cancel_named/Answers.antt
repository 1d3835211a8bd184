use Rattle.uv_loop.proofs.Names.{image_of}
use Rattle.uv_loop.proofs.Events.{cancel_leads}
use Rattle.uv_loop.proofs.pooling.cancel_named.Goals as goal

pub returns-clause-leads : goal.returns-clause-leads
returns-clause-leads c p =
    cancel_leads p (image_of c.args.memory.now) (image_of c.cancel.new.memory) c.args.name c.cancel.result c.requires.name
    c.cancel.ensures.cancels

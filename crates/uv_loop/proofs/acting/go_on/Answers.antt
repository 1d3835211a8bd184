use Rattle.uv_loop.proofs.Names.{image_of}
use Rattle.uv_loop.proofs.Events.{tick_leads}
use Rattle.uv_loop.proofs.acting.go_on.Goals as goal

pub returns-clause-leads : goal.returns-clause-leads
returns-clause-leads c p =
    tick_leads p (image_of c.args.memory.now) (image_of c.tick.new.self) c.args.ms c.requires.may c.tick.ensures.image

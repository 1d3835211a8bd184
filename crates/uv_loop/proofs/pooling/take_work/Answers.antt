use Rattle.uv_loop.proofs.Names.{held}
use Rattle.uv_loop.proofs.Takes.{take_leads}
use Rattle.uv_loop.proofs.pooling.take_work.Goals as goal

pub returns-clause-leads : goal.returns-clause-leads
returns-clause-leads c p =
    take_leads (held c.args.memory.now) (held c.take.new.self) c.args.worker c.args.id _ c.args.request _ c.requires.may
    c.take.ensures.does.does c.take.ensures.frame p

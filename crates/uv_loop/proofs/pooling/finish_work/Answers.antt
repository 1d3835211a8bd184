use Rattle.uv_loop.proofs.Names.{held}
use Rattle.uv_loop.proofs.Finishes.{finish_leads}
use Rattle.uv_loop.proofs.pooling.finish_work.Goals as goal

pub returns-clause-leads : goal.returns-clause-leads
returns-clause-leads c p =
    finish_leads (held c.args.memory.now) (held c.finish.new.self) c.args.worker c.args.id _ c.args.request
    c.args.work.job c.args.work.digest _ c.requires.may c.requires.job c.args.work.is_digest c.finish.ensures.does.does
    c.finish.ensures.frame p

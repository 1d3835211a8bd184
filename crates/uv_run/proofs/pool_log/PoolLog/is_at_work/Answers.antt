use Rattle.uv_run.proofs.Names.{◌∙◌, ap₂, nat_lt}
use Rattle.uv_run.proofs.Open.{at_work}
use Rattle.uv_run.proofs.pool_log.PoolLog.is_at_work.Goals as goal

pub returns : goal.returns
returns c = λ workers legal.
    let log = c.args.self.now in
    ap₂ nat_lt log.ends log.queues ∙ at_work workers log.events.items legal

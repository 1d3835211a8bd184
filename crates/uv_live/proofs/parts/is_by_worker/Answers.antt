use Rattle.uv_live.proofs.Names.{worked}
use Rattle.uv_live.proofs.Shares.{is_by}
use Rattle.uv_live.proofs.parts.is_by_worker.Goals as goal

pub returns : goal.returns
returns g c =
    let shift = c.args.shift.now in
    is_by c.args.k (worked shift.worker shift.events.items shift.share.amount) c.if-shift-k.false shift.turns shift.counted

use Rattle.uv_live.proofs.Names.{rules, worked}
use Rattle.uv_live.proofs.Shares.{share_more, share_over}
use Rattle.uv_live.proofs.settling.do_add_up.Goals as goal

pub returns-then-left-share : goal.returns-then-left-share
returns-then-left-share g c =
    share_over (λ s. worked s.worker s.events.items s.share.amount) c.args.shifts.now c.shifts.k c.index-shifts-k.result _ c.shifts.left
    c.share_of-share.result c.shifts-test.true (search rules) c.if-left-share.true c.shifts.invariant

pub shifts-preserved : goal.shifts-preserved
shifts-preserved g c =
    share_more (λ s. worked s.worker s.events.items s.share.amount) c.args.shifts.now c.shifts.k c.index-shifts-k.result _ c.shifts.left
    c.share_of-share.result c.shifts-test.true (search rules) (search rules) c.shifts.invariant

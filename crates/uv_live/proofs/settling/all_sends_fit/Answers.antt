use Rattle.uv_live.proofs.Names.{ℕ, rules, SendsFit}
use Rattle.uv_live.proofs.Shares.{one_more}
use Rattle.uv_live.proofs.settling.all_sends_fit.Goals as goal

pub names-preserved : goal.names-preserved
names-preserved g c =
    one_more
    (λ (v : ℕ). SendsFit (g.F.Follower.course c.args.session.now).steps (g.F.Follower.plan c.args.session.now).lines c.args.seat.now.knows.counts v)
    c.names.v c.names.invariant (search rules)

use Rattle.uv_live.proofs.Names.{◌<◌, ℕ, SendsFit}
use Rattle.uv_live.proofs.settling.all_sends_fit.Given as goal

abbrev pub invariant-names : goal.invariant-names
invariant-names g l =
    (v : ℕ) → v < l.v → SendsFit (g.F.Follower.course l.session).steps (g.F.Follower.plan l.session).lines l.seat.knows.counts v

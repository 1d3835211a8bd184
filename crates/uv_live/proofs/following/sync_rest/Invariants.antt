use Rattle.uv_live.proofs.Names.{◌≡◌, Follows, StaysEnded}
use Rattle.uv_live.proofs.Places.{AreApplied}
use Rattle.uv_live.proofs.following.sync_rest.Given as goal

-- the entries so far were applied, if the log begins with the events
abbrev pub invariant-rest : goal.invariant-rest
invariant-rest g l = record {
  applied : Follows (g.F.Follower.plan l.initial.session).workers (g.F.Follower.course l.initial.session).events l.book.hold.contents
      → AreApplied l.n l.log (g.F.Follower.course l.initial.session) (g.F.Follower.course l.session);
  plan : g.F.Follower.plan l.session ≡ g.F.Follower.plan l.initial.session;
  ended : StaysEnded (g.F.Follower.refusal l.initial.session) (g.F.Follower.refusal l.session);
}

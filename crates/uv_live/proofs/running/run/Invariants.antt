use Rattle.uv_live.proofs.Names.{◌≡◌, AreNoted}
use Rattle.uv_live.proofs.running.run.Given as goal

abbrev pub invariant-turns : goal.invariant-turns
invariant-turns g l = record {
  board : l.outside.board.now.board ≡ l.initial.outside.board.now.board;
  lost : l.outside.lost ≡ l.initial.outside.lost;
  noted : AreNoted (g.S.Follower.plan l.session).names (g.S.Follower.plan l.session).lines l.outside.names.items;
  plan : g.S.Follower.plan l.session ≡ g.S.Follower.plan l.initial.session;
}

use Rattle.uv_live.proofs.Names.{◌≡◌, AreNoted}
use Rattle.uv_live.proofs.outside.Outside.note_names.Given as goal

abbrev pub invariant-names : goal.invariant-names
invariant-names g l = record {
  board : l.self.board.now.board ≡ l.initial.self.board.now.board;
  seat : l.self.seat ≡ l.initial.self.seat;
  lost : l.self.lost ≡ l.initial.self.lost;
  noted : AreNoted l.v (g.S.Follower.plan l.session).lines l.self.names.items;
}

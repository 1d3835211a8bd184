use Rattle.uv_live.proofs.Names.{◌≡◌, ◌+◌, vec_len}
use Rattle.uv_live.proofs.outside.Outside.into_seat.Given as goal

abbrev pub invariant-left : goal.invariant-left
invariant-left g l = record {
  board : l.outside.board.now.board ≡ l.fn.self.board.now.board;
  lost : l.outside.lost ≡ l.fn.self.lost;
  left : vec_len l.outside.senders + l.n ≡ vec_len l.fn.self.senders;
}

use Rattle.uv_live.proofs.Names.{◌≡◌, ◌+◌, threads_below, HasOwn}
use Rattle.uv_live.proofs.outside.Outside.start.Given as goal

abbrev pub invariant-threads : goal.invariant-threads
invariant-threads g l = record {
  board : l.self.board.now.board ≡ l.initial.self.board.now.board;
  lost : l.self.lost ≡ l.initial.self.lost;
  names : l.self.names.items ≡ l.initial.self.names.items;
  threads : l.self.seat.knows.splits ≡ l.initial.self.seat.knows.splits + threads_below l.thread l.lines;
  own : HasOwn l.thread l.lines l.own;
}

use Rattle.std.proofs.Common.{◌≡◌}
use Rattle.bench.proofs.board.absorbs.Given as goal

abbrev pub invariant-loop : goal.invariant-loop
invariant-loop l = l.seat.board ≡ l.initial.seat.board

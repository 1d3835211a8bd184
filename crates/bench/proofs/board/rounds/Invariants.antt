use Rattle.std.proofs.Common.{◌≡◌}
use Rattle.bench.proofs.board.rounds.Given as goal

abbrev pub invariant-loop : goal.invariant-loop
invariant-loop g l = (l.seat.board ≡ l.initial.seat.board) × (l.sender.board ≡ l.initial.sender.board)

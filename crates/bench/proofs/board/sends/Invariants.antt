use Rattle.std.proofs.Common.{◌≡◌}
use Rattle.bench.proofs.board.sends.Given as goal

abbrev pub invariant-loop : goal.invariant-loop
invariant-loop l = l.sender.board ≡ l.initial.sender.board

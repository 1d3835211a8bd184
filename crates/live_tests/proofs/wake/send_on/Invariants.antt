use Rattle.std.proofs.Common.{◌≡◌}
use Rattle.live_tests.proofs.wake.send_on.Given as goal

abbrev pub invariant-loop-turn : goal.invariant-loop-turn
invariant-loop-turn l = l.sender.seat.board ≡ l.initial.sender.seat.board

use Rattle.std.proofs.Common.{◌≡◌}
use Rattle.live_tests.proofs.wake.absorb_on.Given as goal

abbrev pub invariant-loop : goal.invariant-loop
invariant-loop l = l.seat.board ≡ l.initial.seat.board

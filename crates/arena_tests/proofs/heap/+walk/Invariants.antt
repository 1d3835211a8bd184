use Rattle.arena_tests.proofs.heap.+walk.Given as goal

abbrev pub decreases-walk : goal.decreases-walk
decreases-walk l = l.steps

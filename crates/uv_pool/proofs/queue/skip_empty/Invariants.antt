use Rattle.uv_pool.proofs.Names.{◌≡◌, ◌+◌, deque_len, deque_capacity}
use Rattle.uv_pool.proofs.JobLists.{Skipped}
use Rattle.uv_pool.proofs.queue.skip_empty.Given as goal

abbrev pub invariant-loop-places : goal.invariant-loop-places
invariant-loop-places l =
    Skipped l.skipped l.fn.places.items l.places.items
    × (l.skipped + deque_len l.places ≡ deque_len l.fn.places) × (deque_capacity l.places ≡ deque_capacity l.fn.places)

abbrev pub decreases-loop-places : goal.decreases-loop-places
decreases-loop-places l = deque_len l.places

-- The rest of the way up is the same as the whole.
use Rattle.uv_heap.proofs.Names.{◌≡◌, ◌<◌, length}
use Rattle.uv_heap.specs.Moves.{moved_up}
use Rattle.uv_heap.proofs.sift.move_up.Given as goal

abbrev pub invariant-loop-above : goal.invariant-loop-above
invariant-loop-above l = record {
  within : l.place < length l.entries.array;
  rest : moved_up l.place l.entries.array l.place ≡ moved_up l.fn.from l.fn.entries.array l.fn.from;
  room : l.entries.room ≡ l.fn.entries.room;
}

abbrev pub decreases-loop-above : goal.decreases-loop-above
decreases-loop-above l = l.place

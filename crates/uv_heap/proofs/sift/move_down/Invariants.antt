-- The rest of the way down is the same as the whole.
use Rattle.uv_heap.proofs.Names.{◌≡◌, ◌<◌, ◌-◌, length}
use Rattle.uv_heap.specs.Moves.{moved_down}
use Rattle.uv_heap.proofs.sift.move_down.Given as goal

abbrev pub invariant-loop-child : goal.invariant-loop-child
invariant-loop-child l = record {
  within : l.place < length l.entries.array;
  rest : moved_down (length l.entries.array) l.entries.array l.place ≡ moved_down (length l.fn.entries.array) l.fn.entries.array l.fn.from;
  room : l.entries.room ≡ l.fn.entries.room;
}

abbrev pub decreases-loop-child : goal.decreases-loop-child
decreases-loop-child l = length l.entries.array - l.place

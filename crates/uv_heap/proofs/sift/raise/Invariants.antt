-- The rest of the way up is the same as the whole.
use Rattle.uv_heap.proofs.Names.{◌≡◌, ◌<◌, length}
use Rattle.uv_heap.specs.Undo.{raised}
use Rattle.uv_heap.proofs.sift.raise.Given as goal

abbrev pub invariant-loop-place : goal.invariant-loop-place
invariant-loop-place l = record {
  within : l.place < length l.entries.array;
  rest : raised l.place l.entries.array l.place l.to ≡ raised l.fn.from l.fn.entries.array l.fn.from l.to;
  room : l.entries.room ≡ l.fn.entries.room;
}

abbrev pub decreases-loop-place : goal.decreases-loop-place
decreases-loop-place l = l.place

use Rattle.uv_heap.proofs.Names.{◌≡◌, length, ◌∙◌, ap, arith, Moved}
use Rattle.uv_heap.specs.Moves.{moved_up, pushed}
use Rattle.uv_heap.proofs.MoveLemmas.{moved_up_above}
use Rattle.uv_heap.proofs.UndoLemmas.{pushed_is}
use Rattle.uv_heap.proofs.changes.push.Goals as goal

pub returns-clause-array : goal.returns-clause-array
returns-clause-array c = grind (arith, pushed_is)

pub returns-clause-place : goal.returns-clause-place
returns-clause-place c = grind (arith, pushed_is)

pub overflow_cast-result : goal.overflow_cast-result
overflow_cast-result c = grind (arith, moved_up_above)

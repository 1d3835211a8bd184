use Rattle.uv_heap.proofs.Names.{sym, ◌∙◌, ap, arith, length-swap, Moved}
use Rattle.uv_heap.proofs.MoveLemmas.{moved_up_more, moved_up_end}
use Rattle.uv_heap.proofs.sift.move_up.Goals as goal

pub loop-above-preserved : goal.loop-above-preserved
loop-above-preserved c = grind (arith, length-swap, moved_up_more)

pub returns-clause-array : goal.returns-clause-array
returns-clause-array c = grind (arith, moved_up_end)

pub returns-clause-place : goal.returns-clause-place
returns-clause-place c = grind (arith, moved_up_end)

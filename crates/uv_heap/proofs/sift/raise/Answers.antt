use Rattle.uv_heap.proofs.Names.{sym, ◌∙◌, arith, length-swap}
use Rattle.uv_heap.proofs.MoveLemmas.{raised_more, raised_end}
use Rattle.uv_heap.proofs.sift.raise.Goals as goal

pub loop-place-preserved : goal.loop-place-preserved
loop-place-preserved c = grind (arith, length-swap, raised_more)

pub returns-clause-array : goal.returns-clause-array
returns-clause-array c = sym (raised_end c.loop-place.entries.array c.loop-place.place c.args.to (omega arith)) ∙ c.loop-place.invariant.rest

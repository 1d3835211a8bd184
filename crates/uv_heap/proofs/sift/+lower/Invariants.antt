use Rattle.uv_heap.proofs.sift.+lower.Given as goal

abbrev pub decreases-lower : goal.decreases-lower
decreases-lower l = l.to

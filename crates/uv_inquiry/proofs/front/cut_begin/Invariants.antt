use Rattle.uv_inquiry.proofs.Names.{length}
use Rattle.uv_inquiry.proofs.Cuts.{Reached}
use Rattle.uv_inquiry.proofs.front.cut_begin.Given as goal

abbrev pub invariant-lines : goal.invariant-lines
invariant-lines l = Reached l.input l.rest

abbrev pub decreases-lines : goal.decreases-lines
decreases-lines l = length l.rest

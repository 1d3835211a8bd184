use Rattle.uv_live.proofs.Names.{take, HasOwn}
use Rattle.uv_live.proofs.outside.OwnNames.of.Given as goal

-- each thread has its own of the lines so far
abbrev pub invariant-lines : goal.invariant-lines
invariant-lines l = HasOwn 0 (take l.n l.lines) l.own

use Rattle.uv_script.proofs.ProofNames.{◌≡◌, ◌++◌, drop, map, take, same_line}
use Rattle.uv_script.proofs.same_work.same_lines.Given as goal

-- those up to here are changed, and the others as they were
abbrev pub invariant-loop-line : goal.invariant-loop-line
invariant-loop-line l = l.lines ≡ map same_line (take l.line-index l.initial.lines) ++ drop l.line-index l.initial.lines

use Rattle.uv_find.proofs.Names.{◌≡◌, drop, max, lines_end}
use Rattle.uv_find.proofs.forgetting.lines_end.Given as goal

abbrev pub invariant-lines : goal.invariant-lines
invariant-lines l = max l.end (lines_end (drop l.line-index l.lines)) ≡ lines_end l.lines

use Rattle.uv_find.proofs.Names.{◌≡◌, drop, turned_lines}
use Rattle.uv_find.proofs.same.turned_lines.Given as goal

abbrev pub invariant-lines : goal.invariant-lines
invariant-lines l = turned_lines l.first (drop l.line l.one) (drop l.line l.two) ≡ turned_lines l.first l.one l.two

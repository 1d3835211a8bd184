use Rattle.uv_run.proofs.Names.{take, count_by, is_line, AreCounts}
use Rattle.uv_run.proofs.session.allowed_by.Given as goal

abbrev pub invariant-lines : goal.invariant-lines
invariant-lines l = AreCounts l.names (λ v. count_by (is_line v) (take l.n l.lines)) l.counts.counts.items

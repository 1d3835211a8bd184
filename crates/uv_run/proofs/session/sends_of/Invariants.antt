use Rattle.uv_run.proofs.Names.{take, count_by, is_send, AreCounts}
use Rattle.uv_run.proofs.session.sends_of.Given as goal

abbrev pub invariant-steps : goal.invariant-steps
invariant-steps l = AreCounts l.names (λ v. count_by (is_send v) (take l.n l.steps)) l.counts.counts.items

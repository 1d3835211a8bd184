use Rattle.uv_apart.proofs.Kept as kept
use Rattle.uv_apart.proofs.laws.loop_leaves.Goals as goal

pub returns-clause-clock : goal.returns-clause-clock
returns-clause-clock c = λ p s a l e. (kept.loop_keeps p s a l e).0

pub returns-clause-running : goal.returns-clause-running
returns-clause-running c = λ p s a l e. (kept.loop_keeps p s a l e).1

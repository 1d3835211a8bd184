use Rattle.uv_tasks.proofs.Steps.{fresh_same, next_same}
use Rattle.uv_tasks.proofs.laws.work_is_free.Goals as goal

pub returns-clause-steps : goal.returns-clause-steps
returns-clause-steps c = λ p s e. next_same p s e

pub returns-clause-begins : goal.returns-clause-begins
returns-clause-begins c = λ p. fresh_same p

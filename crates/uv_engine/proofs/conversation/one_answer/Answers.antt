use Rattle.uv_engine.proofs.OneAnswer.{one_answer}
use Rattle.uv_engine.proofs.conversation.one_answer.Goals as goal

pub returns-clause-one : goal.returns-clause-one
returns-clause-one c = one_answer

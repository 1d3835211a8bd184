use Rattle.uv_order.proofs.AnswersTold.{answers}
use Rattle.uv_order.proofs.answers.answers_told.Goals as goal

pub returns : goal.returns
returns c = answers

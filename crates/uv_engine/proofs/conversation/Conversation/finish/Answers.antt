use Rattle.uv_engine.proofs.Names.{err_from_is_err_and}
use Rattle.uv_engine.proofs.Gathers.{short_of_cut}
use Rattle.uv_engine.proofs.conversation.Conversation.finish.Goals as goal

pub returns-in_err-write_out-clause-text : goal.returns-in_err-write_out-clause-text
returns-in_err-write_out-clause-text g c = λ tells. rw ((err_from_is_err_and c.from_residual.result c.from_residual.ensures.1).1)
    (short_of_cut (c.in_err-write_out.ensures.text tells))

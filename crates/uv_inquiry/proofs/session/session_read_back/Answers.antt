use Rattle.uv_inquiry.proofs.Sessions.{session_is}
use Rattle.uv_inquiry.proofs.session.session_read_back.Goals as goal

pub returns : goal.returns
returns c = λ text p es is taken. session_is text p es is (c.text_read_back.ensures text p is) taken

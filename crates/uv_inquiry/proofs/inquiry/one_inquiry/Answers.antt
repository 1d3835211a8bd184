use Rattle.uv_inquiry.proofs.Once.{inquiry_one, inquiry_no_bad, bad_input_one, has_reading}
use Rattle.uv_inquiry.proofs.inquiry.one_inquiry.Goals as goal

pub returns-clause-some : goal.returns-clause-some
returns-clause-some c = λ input. has_reading input (c.one_answer.ensures.some input)

pub returns-clause-inquiry : goal.returns-clause-inquiry
returns-clause-inquiry c = inquiry_one

pub returns-clause-apart : goal.returns-clause-apart
returns-clause-apart c = inquiry_no_bad

pub returns-clause-bad_line : goal.returns-clause-bad_line
returns-clause-bad_line c = bad_input_one

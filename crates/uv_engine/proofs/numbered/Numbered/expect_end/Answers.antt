use Rattle.uv_engine.proofs.Replays.{end_bad, end_read}
use Rattle.uv_engine.proofs.Names.{err_from_is_err_and, Whole}
use Rattle.uv_engine.proofs.Recordings.{long_fails}
use Rattle.uv_engine.proofs.numbered.Numbered.expect_end.Goals as goal

pub returns-in_default-clause-read : goal.returns-in_default-clause-read
returns-in_default-clause-read g c = λ reads p es called.
    let none_left = rw c.in_default.is at (c.in_ok-next_line.ensures.line reads) in
    let same = rw c.in_default.is at c.in_ok-next_line.ensures.none in
    end_read p es called _ _ _ same none_left

pub returns-clause-read : goal.returns-clause-read
returns-clause-read g c = λ reads p es called.
    let taken = rw c.in-Some.is at (c.in_ok-next_line.ensures.line reads) in
    let count = rw c.in-Some.is at c.in_ok-next_line.ensures.taken in
    rw c.bad.ensures (end_bad p es called _ _ _ c.in-Some.field-0.text.items _ c.in-Some.field-0.fed count taken)

pub returns-in_err-next_line-clause-read : goal.returns-in_err-next_line-clause-read
returns-in_err-next_line-clause-read g c = λ reads p es called.
    let e = err_from_is_err_and c.from_residual.result c.from_residual.ensures.1 in
    rw (e.1, e.2) (long_fails (Whole p es called) _ _ _ c.in_err-next_line.field-0.0 c.in_err-next_line.ensures.err
    (c.in_err-next_line.ensures.long reads))

pub returns-in_err-next_line-clause-budget : goal.returns-in_err-next_line-clause-budget
returns-in_err-next_line-clause-budget g c =
    let p = err_from_is_err_and c.from_residual.result c.from_residual.ensures.1 in
    rw (p.1, p.2) c.in_err-next_line.ensures.budget

pub returns-clause-budget : goal.returns-clause-budget
returns-clause-budget g c = rw c.bad.ensures c.in_ok-next_line.ensures.budget

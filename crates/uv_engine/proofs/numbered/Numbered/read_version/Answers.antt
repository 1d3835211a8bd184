use Rattle.uv_engine.proofs.Names.{ℕ, ◌+◌, ap, sym, ◌∙◌, Start, err_from_is_err_and}
use Rattle.uv_engine.proofs.Recordings.{bad_end, long_fails}
use Rattle.uv_engine.proofs.Replays.{version_read, version_bad}
use Rattle.uv_engine.proofs.numbered.Numbered.read_version.Goals as goal

pub returns-in_default-clause-read : goal.returns-in_default-clause-read
returns-in_default-clause-read g c = λ reads.
    let none_left = rw c.in_default.is at (c.in_ok-line.ensures.line reads) in
    let same = rw c.in_default.is at c.in_ok-line.ensures.none in
    rw c.missing.ensures (bad_end Start _ _ _ (ap (λ (n : ℕ). n + 1) same) none_left tt)

pub returns-in-Some-of_line-clause-read : goal.returns-in-Some-of_line-clause-read
returns-in-Some-of_line-clause-read g c = λ reads.
    let taken = rw c.in-Some.is at (c.in_ok-line.ensures.line reads) in
    let count = rw c.in-Some.is at c.in_ok-line.ensures.taken in
    version_read c.in-Some-of_line.version _ _ _ c.in-Some.line.text.items _ c.in-Some.line.fed count taken
    (sym c.as_slice.ensures.value ∙ c.in-Some-of_line.ensures.some)

pub returns-clause-read : goal.returns-clause-read
returns-clause-read g c = λ reads.
    let taken = rw c.in-Some.is at (c.in_ok-line.ensures.line reads) in
    let count = rw c.in-Some.is at c.in_ok-line.ensures.taken in
    rw c.bad.ensures
    (version_bad _ _ _ c.in-Some.line.text.items _ c.in-Some.line.fed count taken
    (λ v e. c.in-None.ensures.none v (c.as_slice.ensures.value ∙ e)))

pub returns-in_err-line-clause-read : goal.returns-in_err-line-clause-read
returns-in_err-line-clause-read g c = λ reads.
    let p = err_from_is_err_and c.from_residual.result c.from_residual.ensures.1 in
    rw (p.1, p.2) (long_fails Start _ _ _ c.in_err-line.field-0.0 c.in_err-line.ensures.err (c.in_err-line.ensures.long reads))

pub returns-in_err-line-clause-budget : goal.returns-in_err-line-clause-budget
returns-in_err-line-clause-budget g c =
    let p = err_from_is_err_and c.from_residual.result c.from_residual.ensures.1 in
    rw (p.1, p.2) c.in_err-line.ensures.budget

pub returns-in_default-clause-budget : goal.returns-in_default-clause-budget
returns-in_default-clause-budget g c = rw c.missing.ensures c.in_ok-line.ensures.budget

pub returns-clause-budget : goal.returns-clause-budget
returns-clause-budget g c = rw c.bad.ensures c.in_ok-line.ensures.budget

use Rattle.uv_engine.proofs.Names.{ℕ, List, length, ap, subst, ◌∙◌, refl, lines_of, NoneSkipped, IsFirstSkipped, FindsSkipped, err_from_is_err_and}
use Rattle.uv_engine.proofs.Recordings.{front_bad, front_skipped}
use Rattle.uv_engine.proofs.Replays.{front_read}
use Rattle.uv_engine.proofs.Faults.{no_read}
use Rattle.uv_engine.proofs.numbered.Numbered.read_script.Goals as goal

pub returns-in-Some-clause-read : goal.returns-in-Some-clause-read
returns-in-Some-clause-read g c = λ reads.
    front_skipped _ _ c.in_ok-front.front.text.items _ c.in_ok-front.front.end c.in-Ok.script _ c.in-Some.line _
    (c.in_ok-front.ensures.front reads) c.in-Ok.ensures
    (subst (λ (xs : List ℕ). IsFirstSkipped (lines_of xs) c.in-Some.line) c.as_slice-2.ensures.value c.in-Some.ensures.found) refl

pub returns-in-Ok-clause-read : goal.returns-in-Ok-clause-read
returns-in-Ok-clause-read g c = λ reads.
    let found = rw c.in_default.is at c.first_skipped-skipped.ensures.found in
    front_read _ _ c.in_ok-front.front.text.items _ c.in_ok-front.front.end _ _ _ (c.in_ok-front.ensures.front reads) c.in-Ok.ensures
    (subst (λ (xs : List ℕ). NoneSkipped (lines_of xs)) c.as_slice-2.ensures.value found)
    (c.line_count-lines.ensures.count ∙ ap (λ (xs : List ℕ). length (lines_of xs)) c.as_slice.ensures.value)

pub returns-in-Err-Script-clause-read : goal.returns-in-Err-Script-clause-read
returns-in-Err-Script-clause-read g c = λ reads.
    let skipped = c.first_skipped-skipped.result in
    front_bad _ _ c.in_ok-front.front.text.items _ c.in_ok-front.front.end skipped _ c.in-Err-Script.line _ _
    (c.in_ok-front.ensures.front reads) (rw c.in-Err-Script.field-0-is at c.in-Err-Script.ensures)
    (subst (λ (xs : List ℕ). FindsSkipped (lines_of xs) skipped) c.as_slice-2.ensures.value c.first_skipped-skipped.ensures.found)
    c.first_bad.ensures refl

pub returns-in_err-front-clause-budget : goal.returns-in_err-front-clause-budget
returns-in_err-front-clause-budget g c =
    let p = err_from_is_err_and c.from_residual.result c.from_residual.ensures.1 in
    rw (p.1, p.2) (no_read _ _ c.in_err-front.ensures.err)

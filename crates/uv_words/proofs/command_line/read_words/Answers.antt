use Rattle.std.proofs.Common.{sym, ◌∙◌}
use Rattle.uv_words.proofs.Asked.{found, refused}
use Rattle.uv_words.proofs.command_line.read_words.Goals as goal

pub returns-in-Some-clause-job : goal.returns-in-Some-clause-job
returns-in-Some-clause-job c =
    let taken = c.in-Ok-try_get_matches_from in
    found _ _ taken.matches c.in-Ok.ensures taken.ensures.matches taken.ensures.kinds
    ∙ sym c.job_by.ensures.job ∙ c.in-Some.is

pub returns-in-Ok-try_get_matches_from-clause-none : goal.returns-in-Ok-try_get_matches_from-clause-none
returns-in-Ok-try_get_matches_from-clause-none c = λ _.
    let taken = c.in-Ok-try_get_matches_from in
    found _ _ taken.matches c.in-Ok.ensures taken.ensures.matches taken.ensures.kinds
    ∙ sym c.job_by.ensures.job ∙ c.in-None.is

pub returns-clause-none : goal.returns-clause-none
returns-clause-none c = λ _. refused _ _ _ _ c.in-Ok.ensures c.in-Err.ensures.kinds
    (λ memory. cc (rw (c.kind.ensures ∙ memory) at (sym c.eq.ensures ∙ c.if-eq.false)))

use Rattle.uv_pool.proofs.Names.{Some, refl, ap, sym, ◌∙◌}
use Rattle.uv_pool.proofs.held.Held.finish_job.Goals as goal

pub returns-then-not-is-clause-call : goal.returns-then-not-is-clause-call
returns-then-not-is-clause-call c =
    let there = sym c.run_at.ensures ∙ c.in-Some-Some.is ∙ ap Some c.in-Some-Some.field-0-is in
    ((c.in-Some-Some.job, there, rw c.job.ensures at c.if-not-is.ensures), refl)

use Rattle.uv_plain.proofs.Names.{inr, refl, sym, ◌∙◌}
use Rattle.uv_plain.proofs.state.LoopState.result_refusal.Goals as goal

pub returns-in_default-clause-some : goal.returns-in_default-clause-some
returns-in_default-clause-some c = inr (refl, (c.in-Some-job_run.own, sym c.job_run.ensures ∙ c.in-Some-job_run.is, c.if-is.ensures))

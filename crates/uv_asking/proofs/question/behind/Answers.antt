use Rattle.uv_asking.proofs.Names.{◌∙◌, Behind}
use Rattle.uv_asking.proofs.question.behind.Goals as goal

pub returns-in_err-first : goal.returns-in_err-first
returns-in_err-first c = c.from_residual.ensures ∙ (rw c.in_err-first.was at c.pair.ensures Behind)

pub returns : goal.returns
returns c = rw c.in_ok-first.was at c.pair.ensures Behind

use Rattle.uv_asking.proofs.Names.{◌∙◌, Before}
use Rattle.uv_asking.proofs.question.before.Goals as goal

pub returns-in_err-first : goal.returns-in_err-first
returns-in_err-first c = c.from_residual.ensures ∙ (rw c.in_err-first.was at c.pair.ensures Before)

pub returns : goal.returns
returns c = rw c.in_ok-first.was at c.pair.ensures Before

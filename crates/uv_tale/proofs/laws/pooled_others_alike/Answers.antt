use Rattle.uv_tale.proofs.Steps as steps
use Rattle.uv_tale.proofs.laws.pooled_others_alike.Goals as goal

pub returns : goal.returns
returns c = λ p n s t e before timed young timely youth same. steps.pooled_others p n s t before timed young timely youth same e

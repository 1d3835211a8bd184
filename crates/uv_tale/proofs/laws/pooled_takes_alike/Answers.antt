use Rattle.uv_tale.proofs.Steps as steps
use Rattle.uv_tale.proofs.laws.pooled_takes_alike.Goals as goal

pub returns : goal.returns
returns c = λ p n s t k j before timed young timely youth same. steps.pooled_takes p n s t before timed young timely youth same k j

use Rattle.uv_tale.proofs.Steps as steps
use Rattle.uv_tale.proofs.laws.takes_alike.Goals as goal

pub returns : goal.returns
returns c = λ p n s t k j before regular good same. steps.takes_alike p n s t before regular good same k j

use Rattle.uv_tale.proofs.Steps as steps
use Rattle.uv_tale.proofs.laws.others_alike.Goals as goal

pub returns : goal.returns
returns c = λ p n s t e before regular good same. steps.others_alike p n s t before regular good same e

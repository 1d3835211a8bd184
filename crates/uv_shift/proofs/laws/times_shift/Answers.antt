use Rattle.uv_shift.proofs.Steps as steps
use Rattle.uv_shift.proofs.laws.times_shift.Goals as goal

pub returns : goal.returns
returns c = steps.next_shift

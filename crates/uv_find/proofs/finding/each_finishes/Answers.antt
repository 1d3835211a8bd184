use Rattle.uv_find.proofs.Finishing as finishing
use Rattle.uv_find.proofs.finding.each_finishes.Goals as goal

pub returns : goal.returns
returns c = finishing.each_finishes

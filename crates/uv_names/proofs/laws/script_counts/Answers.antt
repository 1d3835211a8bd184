use Rattle.uv_names.proofs.Counted as counted
use Rattle.uv_names.proofs.laws.script_counts.Goals as goal

pub returns : goal.returns
returns c = counted.script_before

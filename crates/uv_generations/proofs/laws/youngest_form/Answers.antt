use Rattle.uv_generations.proofs.Base.{youngest_more, youngest_same}
use Rattle.uv_generations.proofs.laws.youngest_form.Goals as goal

pub returns : goal.returns
returns c = record { renamed = youngest_more; same = youngest_same }

use Rattle.uv_find.proofs.Undone.{set_twice, set_itself}
use Rattle.uv_find.proofs.choices.lessen.Goals as goal

pub returns-then-number-len-clause-was : goal.returns-then-number-len-clause-was
returns-then-number-len-clause-was c = search (set_twice, set_itself)

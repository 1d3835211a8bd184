use Rattle.uv_find.proofs.Names.{◌≡◌, is_new}
use Rattle.uv_find.proofs.sources.is_new.Given as goal

abbrev pub invariant-events : goal.invariant-events
invariant-events l = l.new ≡ is_new l.recorded l.event l.number

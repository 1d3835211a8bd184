use Rattle.uv_find.proofs.Names.{◌≡◌, sources}
use Rattle.uv_find.proofs.sources.sources.Given as goal

abbrev pub invariant-events : goal.invariant-events
invariant-events l = l.all.items ≡ sources l.recorded l.number

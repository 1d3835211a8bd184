use Rattle.uv_pool.proofs.Looks.{NoneFinished}
use Rattle.uv_pool.proofs.sightings.is_finished_past.Given as goal

abbrev pub invariant-places : goal.invariant-places
invariant-places l = NoneFinished l.n l.place l.log

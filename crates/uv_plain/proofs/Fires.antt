-- The timers of a section.
use Rattle.uv_model.proofs.Calls.{able_small}
use Rattle.uv_model.proofs.Walks.{front_there}

pub ruleset fires = (able_small, front_there)

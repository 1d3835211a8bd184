use Rattle.uv_search.proofs.Cutting.{once}
use Rattle.uv_search.proofs.halves.Halves.is_once.Goals as goal

pub returns : goal.returns
returns c = rw (← c.self.view_is) (once c.self.inside.parts c.self.inside.pairs c.is_once.ensures c.self.invariant)

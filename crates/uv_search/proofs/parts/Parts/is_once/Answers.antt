use Rattle.uv_search.proofs.Names.{nat_eq, pointwise}
use Rattle.uv_search.proofs.Cutting.{once_distinct}
use Rattle.uv_search.proofs.KeyLists.{distinct_seen}
use Rattle.uv_search.proofs.parts.Parts.is_once.Goals as goal

pub returns : goal.returns
returns c = rw (← c.self.view_is)
    (once_distinct _ (distinct_seen (λ k. k.bytes.items) (pointwise nat_eq) c.self.inside.parts.keys c.len.ensures.unique))

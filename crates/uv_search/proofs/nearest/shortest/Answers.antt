use Rattle.uv_search.proofs.nearest.shortest.Goals as goal

pub returns-in-None-clause-sure : goal.returns-in-None-clause-sure
returns-in-None-clause-sure g c =
    let same = rw c.in-None.is at c.in_ok-short.ensures.none in
    rw (c.take_nearest.ensures.rules, same.0) at c.shorten.ensures.sure

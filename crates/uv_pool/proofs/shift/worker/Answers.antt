use Rattle.uv_pool.proofs.Names.{List, sym, subst, PoolEvent, Stops}
use Rattle.uv_pool.proofs.shift.worker.Goals as goal

pub returns-in-Err-clause-stops : goal.returns-in-Err-clause-stops
returns-in-Err-clause-stops g c =
    subst
    (λ (after : List PoolEvent). Stops g.B.Bench.answered g.B.Bench.refuses c.args.k c.in-Err.fault (g.B.Bench.answered c.args.bench.now) after)
    (sym c.close.ensures.same) c.in-Err.ensures.stops

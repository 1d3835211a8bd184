use Rattle.uv_search.proofs.Names.{◌≡◌, ◌+◌, ◌++◌, arith, drop, refl, take, common_steps}
use Rattle.uv_search.proofs.Retracing.{went_back}
use Rattle.uv_search.proofs.shortening.leave_out.Goals as goal

pub returns-in-Some-clause-left : goal.returns-in-Some-clause-left
returns-in-Some-clause-left g c = grind (arith, went_back, common_steps)

pub returns-clause-left : goal.returns-clause-left
returns-clause-left g c =
    let without : c.deref-3.result.now ≡ take c.args.place c.args.way.now.items ++ drop (c.args.place + 1) c.args.way.now.items = grind
    (arith, common_steps) in
    let made = rw (c.in-None.is, without) at c.in_ok-made.ensures.made in
    (made.0, made.1, (refl, made.2))

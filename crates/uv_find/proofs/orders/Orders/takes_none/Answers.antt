use Rattle.uv_find.proofs.Names.{sym, AllocError}
use Rattle.uv_find.proofs.Leading.{takes_some}
use Rattle.uv_find.proofs.orders.Orders.takes_none.Goals as goal

pub returns-in-Some-clause-none : goal.returns-in-Some-clause-none
returns-in-Some-clause-none g c =
    let took = rw (c.in-Some.is, c.offers.invariant.same) at c.in_ok-take.ensures in
    rw (← c.move_count-count.ensures.count)
    (sym (takes_some AllocError c.args.self.now c.take.new.self c.offers.number c.move_count-count.result _ c.offers-test.true took))

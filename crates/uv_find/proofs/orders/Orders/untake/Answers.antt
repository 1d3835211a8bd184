use Rattle.uv_find.proofs.Taking.{back_searched}
use Rattle.uv_find.proofs.orders.Orders.untake.Goals as goal

pub invariant_of-self : goal.invariant_of-self
invariant_of-self g c =
    let i = c.self.inside in
    back_searched g.M.Machine.BackWantsMemory i.session c.take_back.new.session i.terms i.made.items c.pop.new.self.items c.in-Some.made
    c.self.invariant
    c.in-Some.ensures.items c.take_back.ensures

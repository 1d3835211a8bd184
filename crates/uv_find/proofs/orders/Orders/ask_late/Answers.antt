use Rattle.uv_find.proofs.Names.{◌≡◌, true, asks_late, rules_by}
use Rattle.uv_find.proofs.Later.{later_forgets, later_holds}
use Rattle.uv_find.proofs.orders.Orders.ask_late.Goals as goal

pub invariant_of-self : goal.invariant_of-self
invariant_of-self g c =
    let i = c.self.inside in
    let v = c.self.invariant in
    let r = rules_by i.session.program i.terms in
    let late : asks_late i.terms.question ≡ true = rw (← c.self.view_is) at c.requires.late in
    record {
      limit = v.limit;
      taken = v.taken;
      back = v.back;
      forgets = later_forgets r c.args.name c.args.ms v.forgets;
      holds = later_holds r c.args.name c.args.ms late v.holds;
      brief = v.brief;
      room = v.room;
    }

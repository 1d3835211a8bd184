use Rattle.uv_find.proofs.Names.{◌≡◌, true, none_leads}
use Rattle.uv_find.proofs.orders.Orders.takes_none.Given as goal

abbrev pub invariant-offers : goal.invariant-offers
invariant-offers g l = record {
  same : l.self ≡ l.fn.self;
  none : none_leads l.fn.self.rules l.fn.self.spot.place l.number ≡ true;
}

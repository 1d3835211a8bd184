use Rattle.uv_find.proofs.Names.{◌≡◌, ◌++◌, drop, each_code}
use Rattle.uv_find.proofs.orders.push_each.Given as goal

abbrev pub invariant-offers : goal.invariant-offers
invariant-offers l = l.out.items ++ each_code (drop l.one-index l.left) ≡ l.fn.out.items ++ each_code l.left

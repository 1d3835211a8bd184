use Rattle.uv_find.proofs.Names.{◌≡◌, ◌≤◌, ℕ, true, asks_late, asked_late}
use Rattle.uv_find.proofs.latest.rise.Given as goal

abbrev pub invariant-rounds : goal.invariant-rounds
invariant-rounds g l = record {
  spot : l.orders.spot ≡ l.fn.orders.spot;
  late : asks_late l.orders.rules.question ≡ true;
  rules : (m : ℕ) → asked_late l.orders.rules l.fn.name m ≡ asked_late l.fn.orders.rules l.fn.name m;
  least : l.fn.first ≤ l.ms;
}

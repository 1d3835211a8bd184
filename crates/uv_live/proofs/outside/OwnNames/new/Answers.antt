use Rattle.uv_live.proofs.Names.{rules, arith, length-map}
use Rattle.uv_live.proofs.Own.{none_more}
use Rattle.uv_live.proofs.outside.OwnNames.new.Goals as goal

pub empty-preserved : goal.empty-preserved
empty-preserved c = record {
  count = search rules;
  none = λ k.
      none_more (λ names. names.items) c.empty.lists.items c.new.result c.push.new.self.items k c.in_ok-push.ensures.items c.new.ensures.items
      (c.empty.invariant.none k);
}

pub returns : goal.returns
returns c = record {
  count = omega (arith, length-map c.empty.lists.items (λ names. names.items), c.empty.invariant.count, c.empty-test.false, c.empty.auto.counter-end);
  names = λ k least below. c.empty.invariant.none k;
}

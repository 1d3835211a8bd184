use Rattle.uv_search.proofs.Names.{◌∙◌, arith}
use Rattle.uv_search.proofs.shortening.shorten.Goals as goal

pub tries-preserved-then-branch : goal.tries-preserved-then-branch
tries-preserved-then-branch g c = grind arith

pub tries-preserved : goal.tries-preserved
tries-preserved g c =
    let i = c.tries.invariant in
    let left = rw (c.if-branch.false, i.rules, i.place, i.before) at c.in_ok-leave_out.ensures.left in
    record {
      rules = c.leave_out.ensures.rules ∙ i.rules;
      place = left.0;
      before = left.1;
      long = rw left.2.0 i.long;
      still = rw left.2.0 i.still;
    }

pub returns-clause-sure : goal.returns-clause-sure
returns-clause-sure g c =
    let i = c.tries.invariant in
    let led = rw (c.if-answers.false, i.rules, i.place, c.deref.ensures.value) at c.in_ok-count.ensures.led in
    λ q w. (let t = i.still q w in led.3 t.0 t.1)

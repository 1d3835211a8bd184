use Rattle.std.proofs.Common.{arith, ◌≤◌, refl, ◌∙◌}
use Rattle.uv_key.proofs.Numbers.{one_byte, last_byte, length-small, length-large, length-number}
use Rattle.uv_key.proofs.put_long.Goals as goal

pub loop-rest-init : goal.loop-rest-init
loop-rest-init c =
    let few = length-number c.args.n (omega arith) in
    record { items = refl; few = omega (arith, few); room = refl }

pub push_reserved-requires : goal.push_reserved-requires
push_reserved-requires c =
    let large = length-large c.loop-rest.rest (omega (arith, c.loop-rest-test.true)) in
    omega (arith, large, c.requires, c.loop-rest.invariant.few, c.loop-rest.invariant.room)

pub push_reserved-requires-2 : goal.push_reserved-requires-2
push_reserved-requires-2 c =
    let one = length-small c.loop-rest.rest (omega (arith, c.loop-rest-test.false)) in
    omega (arith, one, c.requires, c.loop-rest.invariant.few, c.loop-rest.invariant.room)

pub loop-rest-preserved : goal.loop-rest-preserved
loop-rest-preserved c =
    let enough : 128 ≤ c.loop-rest.rest = omega (arith, c.loop-rest-test.true) in
    let large = length-large c.loop-rest.rest enough in
    let items = one_byte c.loop-rest.out.items c.push_reserved.new.self.items c.args.out.now.items c.args.n c.loop-rest.rest enough
    c.push_reserved.ensures.items c.loop-rest.invariant.items in
    record {
      items = items;
      few = omega (arith, large, c.loop-rest.invariant.few, c.push_reserved.ensures.len);
      room = c.push_reserved.ensures.capacity ∙ c.loop-rest.invariant.room;
    }

pub returns-clause-items : goal.returns-clause-items
returns-clause-items c =
    last_byte c.loop-rest.out.items c.push_reserved-2.new.self.items c.args.out.now.items c.args.n c.loop-rest.rest
    (omega (arith, c.loop-rest-test.false)) c.push_reserved-2.ensures.items c.loop-rest.invariant.items

pub returns-clause-len : goal.returns-clause-len
returns-clause-len c =
    let one = length-small c.loop-rest.rest (omega (arith, c.loop-rest-test.false)) in
    omega (arith, one, c.loop-rest.invariant.few, c.push_reserved-2.ensures.len)

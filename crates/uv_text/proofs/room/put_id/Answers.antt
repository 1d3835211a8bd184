use Rattle.uv_text.proofs.Names.{arith, length-decimal-le}
use Rattle.uv_text.proofs.room.put_id.Goals as goal

pub put_number-requires : goal.put_number-requires
put_number-requires c =
    let few = length-decimal-le 10 c.args.id.slot (omega arith) (omega arith) (omega arith) in
    omega (arith, few, c.requires)

pub push_reserved-requires : goal.push_reserved-requires
push_reserved-requires c =
    let few = length-decimal-le 10 c.args.id.slot (omega arith) (omega arith) (omega arith) in
    omega (arith, few, c.requires, c.put_number.ensures.len, c.put_number.ensures.room)

pub put_number-requires-2 : goal.put_number-requires-2
put_number-requires-2 c =
    let few = length-decimal-le 10 c.args.id.slot (omega arith) (omega arith) (omega arith) in
    let more = length-decimal-le 10 c.args.id.generation (omega arith) (omega arith) (omega arith) in
    omega (
      arith,
      few,
      more,
      c.requires,
      c.put_number.ensures.len,
      c.put_number.ensures.room,
      c.push_reserved.ensures.len,
      c.push_reserved.ensures.capacity,
    )

pub returns-clause-len : goal.returns-clause-len
returns-clause-len c =
    let few = length-decimal-le 10 c.args.id.slot (omega arith) (omega arith) (omega arith) in
    let more = length-decimal-le 10 c.args.id.generation (omega arith) (omega arith) (omega arith) in
    omega (arith, few, more, c.put_number.ensures.len, c.push_reserved.ensures.len, c.put_number-2.ensures.len)

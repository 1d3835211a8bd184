use Rattle.uv_text.proofs.Names.{arith, length-decimal-le}
use Rattle.uv_text.proofs.room.put_count.Goals as goal

pub put_number-requires : goal.put_number-requires
put_number-requires c =
    let few = length-decimal-le 10 c.args.count (omega arith) (omega arith) (omega arith) in
    omega (arith, few, c.requires, c.push_reserved.ensures.len, c.push_reserved.ensures.capacity)

pub returns-clause-len : goal.returns-clause-len
returns-clause-len c =
    let few = length-decimal-le 10 c.args.count (omega arith) (omega arith) (omega arith) in
    omega (arith, few, c.push_reserved.ensures.len, c.put_number.ensures.len)

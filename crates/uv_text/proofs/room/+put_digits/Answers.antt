use Rattle.uv_text.proofs.Names.{◌<◌, ◌≤◌, ◌^◌, arith, append_assoc, decimal_step}
use Rattle.uv_text.proofs.Digits.{length-last_digit}
use Rattle.uv_text.proofs.room.+put_digits.Goals as goal

pub put_digits-requires : goal.put_digits-requires
put_digits-requires t c =
    let some : 10 ≤ c.args.number = c.if-number-lt10.false in
    let small : c.args.number < 2 ^ 64 = omega (arith, c.ranges.number) in
    let digits = length-last_digit c.args.number some small in
    (omega (arith, some, c.decreases), omega (arith, c.requires, digits))

pub push_reserved-requires-else-number-lt10 : goal.push_reserved-requires-else-number-lt10
push_reserved-requires-else-number-lt10 t c =
    let some : 10 ≤ c.args.number = c.if-number-lt10.false in
    let small : c.args.number < 2 ^ 64 = omega (arith, c.ranges.number) in
    let digits = length-last_digit c.args.number some small in
    omega (arith, c.requires, digits, c.put_digits.ensures.len, c.put_digits.ensures.room)

pub returns-else-number-lt10-clause-items : goal.returns-else-number-lt10-clause-items
returns-else-number-lt10-clause-items t c = grind (arith, decimal_step, append_assoc)

pub returns-else-number-lt10-clause-len : goal.returns-else-number-lt10-clause-len
returns-else-number-lt10-clause-len t c = grind (arith, length-last_digit)

use Rattle.uv_state_key.proofs.Names.{arith, number_code, each_turn, list_end}
use Rattle.uv_state_key.proofs.lists.push_numbers.Goals as goal

pub loop-number-preserved : goal.loop-number-preserved
loop-number-preserved c = grind (arith, each_turn)

pub returns : goal.returns
returns c =
    list_end number_code c.args.numbers.now c.loop-number.number-index c.args.out.now.items c.push_number.new.out.items c.loop-number.out.items
    (omega arith) c.in_ok-push_number.ensures c.loop-number.invariant

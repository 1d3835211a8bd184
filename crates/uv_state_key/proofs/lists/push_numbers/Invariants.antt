use Rattle.uv_state_key.proofs.Names.{◌≡◌, ◌++◌, take, flat_map, number_code}
use Rattle.uv_state_key.proofs.lists.push_numbers.Given as goal

-- those before this one
abbrev pub invariant-loop-number : goal.invariant-loop-number
invariant-loop-number l = l.out.items ≡ l.initial.out.items ++ flat_map number_code (take l.number-index l.numbers)

use Rattle.uv_text.proofs.Names.{◌≡◌, ◌++◌, take, flat_map, numbered, codes}
use Rattle.uv_text.proofs.state.push_numbers.Given as goal

-- those before this one
abbrev pub invariant-loop-number : goal.invariant-loop-number
invariant-loop-number l = l.text.items ≡ l.initial.text.items ++ flat_map (numbered (codes " ")) (take l.number-index l.numbers)

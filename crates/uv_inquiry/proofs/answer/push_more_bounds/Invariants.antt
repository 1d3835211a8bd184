use Rattle.uv_inquiry.proofs.Names.{◌≡◌, ◌++◌, take, flat_map, more_bound}
use Rattle.uv_inquiry.proofs.answer.push_more_bounds.Given as goal

-- those before this one
abbrev pub invariant-loop-bound : goal.invariant-loop-bound
invariant-loop-bound l = l.text.items ≡ l.initial.text.items ++ flat_map (more_bound l.names) (take l.bound-index l.most)

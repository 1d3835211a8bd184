use Rattle.uv_text.proofs.Names.{◌≡◌, ◌++◌, take, flat_map, named_ends}
use Rattle.uv_text.proofs.image.push_lists.Given as goal

-- those before this one
abbrev pub invariant-loop-one : goal.invariant-loop-one
invariant-loop-one l = l.text.items ≡ l.initial.text.items ++ flat_map named_ends (take l.one-index l.lists)

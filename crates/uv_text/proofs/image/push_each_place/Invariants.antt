use Rattle.uv_text.proofs.Names.{◌≡◌, ◌++◌, take, flat_map, place_text}
use Rattle.uv_text.proofs.image.push_each_place.Given as goal

-- those before this one
abbrev pub invariant-loop-slot : goal.invariant-loop-slot
invariant-loop-slot l = l.text.items ≡ l.initial.text.items ++ flat_map place_text (take l.slot-index l.slots)

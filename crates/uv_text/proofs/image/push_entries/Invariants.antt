use Rattle.uv_text.proofs.Names.{◌≡◌, ◌++◌, take, flat_map, entry_text}
use Rattle.uv_text.proofs.image.push_entries.Given as goal

-- those before this one
abbrev pub invariant-loop-entry : goal.invariant-loop-entry
invariant-loop-entry l = l.text.items ≡ l.initial.text.items ++ flat_map entry_text (take l.entry-index l.heap)

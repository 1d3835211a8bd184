use Rattle.uv_text.proofs.Names.{◌≡◌, ◌++◌, parts_from}
use Rattle.uv_text.proofs.parts.push_parts.Given as goal

-- those before this one
abbrev pub invariant-loop-number : goal.invariant-loop-number
invariant-loop-number g l = l.text.items ≡ l.initial.text.items ++ parts_from (g.P.Parts.part l.parts) 0 l.number

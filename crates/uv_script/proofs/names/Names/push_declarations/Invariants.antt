use Rattle.uv_script.proofs.ProofNames.{take, ◌≡◌, ◌++◌, map, var_line, lines_text}
use Rattle.uv_script.proofs.names.Names.push_declarations.Given as goal

-- the lines so far are written
abbrev pub invariant-loop-number : goal.invariant-loop-number
invariant-loop-number l = l.text.items ≡ l.initial.text.items ++ lines_text (map var_line (take l.number l.self))

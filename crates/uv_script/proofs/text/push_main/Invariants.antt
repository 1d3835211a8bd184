use Rattle.uv_script.proofs.ProofNames.{take, ◌≡◌, ◌++◌, map, main_line, lines_text}
use Rattle.uv_script.proofs.text.push_main.Given as goal

-- the lines so far are written
abbrev pub invariant-loop-op : goal.invariant-loop-op
invariant-loop-op l = l.text.items ≡ l.initial.text.items ++ lines_text (map (main_line l.names) (take l.op-index l.main))

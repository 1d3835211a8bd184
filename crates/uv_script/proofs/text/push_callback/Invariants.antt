use Rattle.uv_script.proofs.ProofNames.{take, ◌≡◌, ◌++◌, map, callback_line, lines_text}
use Rattle.uv_script.proofs.text.push_callback.Given as goal

-- the lines so far are written
abbrev pub invariant-loop-line : goal.invariant-loop-line
invariant-loop-line l = l.text.items ≡ l.initial.text.items ++ lines_text (map (callback_line l.names l.kind l.name) (take l.line-index l.lines))

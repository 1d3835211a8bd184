use Rattle.uv_inquiry.proofs.Names.{◌≡◌, ◌++◌, map, take, lines_text, step_line}
use Rattle.uv_inquiry.proofs.session.push_step_lines.Given as goal

-- the lines before this one
abbrev pub invariant-loop-step : goal.invariant-loop-step
invariant-loop-step l = l.text.items ≡ l.initial.text.items ++ lines_text (map (step_line l.names) (take l.step-index l.steps))

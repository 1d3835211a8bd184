use Rattle.uv_script.proofs.ProofNames.{◌≡◌, drop, next_line}
use Rattle.uv_script.proofs.callback_lines.CallbackLines.next_line.Given as goal

-- the first line for the call is among those that are left
abbrev pub invariant-loop-next : goal.invariant-loop-next
invariant-loop-next l = next_line l.call l.next (drop l.next l.lines) ≡ next_line l.call l.from (drop l.from l.lines)

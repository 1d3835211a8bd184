use Rattle.uv_script.proofs.ProofNames.{◌≡◌, ◌++◌, drop, callback_lines, lines_text, CutShort}
use Rattle.uv_script.proofs.script.Script.push_callbacks.Given as goal

-- what is written, with the lines that are left, is all
abbrev pub invariant-loop-number : goal.invariant-loop-number
invariant-loop-number l = record {
  all : l.text.items ++ lines_text (callback_lines l.self l.number (drop l.number l.self.names))
      ≡ l.initial.text.items ++ lines_text (callback_lines l.self 0 l.self.names);
  kept : CutShort l.initial.text.items (lines_text (callback_lines l.self 0 l.self.names)) l.text.items;
}

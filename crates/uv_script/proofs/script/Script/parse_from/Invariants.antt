use Rattle.uv_script.proofs.ProofNames.{◌≡◌, ◌++◌, length, map, ReadsAll, blank, lines_of}
use Rattle.uv_script.proofs.script.Script.parse_from.Given as goal

abbrev pub invariant-loop-line : goal.invariant-loop-line
invariant-loop-line l = record {
  can : (goal.iterator-loop-line).can_next l.line-iterator;
  finite : (goal.iterator-loop-line).is_finite l.line-iterator;
  read : ReadsAll (record { program = blank; said = l.fn.said }) (map (λ line. line.now) l.yielded)
      (record { program = l.script; said = l.settings });
  counted : l.number ≡ length l.yielded;
  rest : map (λ line. line.now) l.yielded ++ l.line-iterator ≡ lines_of l.fn.text;
}

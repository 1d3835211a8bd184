use Rattle.uv_inquiry.proofs.Names.{◌≡◌, ◌+◌, ◌++◌, length, map, lines_of, unsaid, ReadsAll}
use Rattle.uv_inquiry.proofs.draft.read_lines.Given as goal

abbrev pub invariant-loop-line : goal.invariant-loop-line
invariant-loop-line l = record {
  can : (goal.iterator-loop-line).can_next l.line-iterator;
  finite : (goal.iterator-loop-line).is_finite l.line-iterator;
  read : ReadsAll l.fn.names unsaid (map (λ line. line.now) l.yielded) l.draft;
  counted : l.number ≡ l.fn.before + length l.yielded;
  rest : map (λ line. line.now) l.yielded ++ l.line-iterator ≡ lines_of l.fn.text;
}

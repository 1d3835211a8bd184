use Rattle.uv_engine.proofs.Names.{◌≡◌, ◌++◌, length, map, lines_of, NoneSkipped}
use Rattle.uv_engine.proofs.numbered.first_skipped.Given as goal

abbrev pub invariant-loop-line : goal.invariant-loop-line
invariant-loop-line l = record {
  can : (goal.iterator-loop-line).can_next l.line-iterator;
  finite : (goal.iterator-loop-line).is_finite l.line-iterator;
  say : NoneSkipped (map (λ line. line.now) l.yielded);
  counted : l.number ≡ length l.yielded;
  rest : map (λ line. line.now) l.yielded ++ l.line-iterator ≡ lines_of l.fn.text;
}

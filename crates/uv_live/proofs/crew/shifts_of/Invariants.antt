use Rattle.uv_live.proofs.Names.{◌≡◌, ◌++◌, into_iter_items, given_in}
use Rattle.uv_live.proofs.crew.shifts_of.Given as goal

-- what was kept, and what is left, is what all gave
abbrev pub invariant-answers : goal.invariant-answers
invariant-answers g l = l.shifts.items ++ given_in (into_iter_items l.answer-iterator) ≡ given_in l.fn.answers.items

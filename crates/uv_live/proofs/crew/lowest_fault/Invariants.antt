use Rattle.uv_live.proofs.Names.{◌≡◌, drop, first_fault}
use Rattle.uv_live.proofs.crew.lowest_fault.Given as goal

-- none of those so far has a fault
abbrev pub invariant-answers : goal.invariant-answers
invariant-answers g l = first_fault l.answers ≡ first_fault (drop l.k l.answers)

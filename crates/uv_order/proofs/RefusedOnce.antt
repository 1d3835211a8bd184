-- What once refuses.
use Rattle.uv_order.proofs.Names.{arith, ◌≡◌, ◌||◌, List, ◌∷◌, ◌++◌, true, both_ways, Id, Seen, Program, has_take_line, MayFollow, OnceFrom, RefusedOnce, []}

-- the lines before another one, the last one first, in front of those
abbrev turned : List Seen → List Seen → List Seen
turned past [] = past
turned past (l ∷ ls) = turned (l ∷ past) ls

-- a line may follow those before it
follows : (p : Program) (before ls : List Seen) (past : List Seen) (l : Seen) → OnceFrom p past (before ++ l ∷ ls) →
    MayFollow p (turned past before) l
follows p [] ls past l h = h.0
follows p (x ∷ before) ls past l h = follows p before ls (x ∷ past) l h.1

-- a take among these lines, or those before them, is one among all
taken : (past before : List Seen) (id : Id) → (has_take_line before id || has_take_line past id) ≡ true → has_take_line (turned past before) id ≡ true
taken past [] id e = e
taken past (x ∷ before) id e = grind (arith, taken (x ∷ past) before id)

pub refused : (p : Program) (before more : List Seen) → RefusedOnce p before more
refused p before more = grind (arith, follows, turned, both_ways, taken)

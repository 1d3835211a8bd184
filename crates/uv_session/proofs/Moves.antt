-- Steps that are taken back.
use Rattle.uv_session.proofs.Names.{◌≡◌, ℕ, zero, suc, [], ◌∷◌, refl, ◌+◌, ◌-◌, ◌<◌, ◌≤◌, List, ◌++◌, length, take, drop, ap, ap₂, sym, ◌∙◌, arith, length-take, append_assoc, common_steps, take-append-drop, take-add, Event, Program, Break, Shown, moved_back, moved_forward}

-- the first steps of a list as standing, and the others as taken back
abbrev pub split : Program → ℕ → List Break → ℕ → List Event → Shown
split p limit breaks k es = record { program = p; limit = limit; standing = take k es; taken_back = drop k es; breaks = breaks }

length-first : (k : ℕ) (es : List Event) → k ≤ length es → length (take k es) ≡ k
length-first k es l = rw length-take (omega arith)

first : (k n : ℕ) (es : List Event) → n ≤ k → k ≤ length es → take (k - n) es ≡ take (length (take k es) - n) (take k es)
first k n es l m = rw (length-first k es m) (grind (arith, common_steps))

rest : (k n : ℕ) (es : List Event) → n ≤ k → k ≤ length es → drop (k - n) es ≡ drop (length (take k es) - n) (take k es) ++ drop k es
rest k n es l m = rw (length-first k es m) (
    let whole : take k es ++ drop k es ≡ es = take-append-drop k es in
    let short : length (take k es) ≡ k = length-first k es m in
    ap (drop (k - n)) (sym whole) ∙ grind (arith, common_steps))

pub split_moved : (p : Program) (limit : ℕ) (breaks : List Break) (k n : ℕ) (es : List Event) → n ≤ k → k ≤ length es →
    split p limit breaks (k - n) es ≡ moved_back n (split p limit breaks k es)
split_moved p limit breaks k n es l m = simp (ap₂, first, rest)

-- one step more
pub moved_more : (s : Shown) (n : ℕ) → n < length s.standing → moved_back 1 (moved_back n s) ≡ moved_back (n + 1) s
moved_more s n l =
    let k = length s.standing - n in
    let same : length s.standing - (n + 1) ≡ k - 1 = omega arith in
    let low : 1 ≤ k = omega arith in
    let high : k ≤ length s.standing = omega arith in
    rw same (search (ap₂, first, append_assoc, drop, rest))

drop_none : (n : ℕ) → ◌≡◌ {A = List Event} (drop n []) []
drop_none n = grind arith

drop_more : (k n : ℕ) (es : List Event) → drop (k + n) es ≡ drop n (drop k es)
drop_more (suc k) n (e ∷ es) = let same : suc k + n ≡ suc (k + n) = omega arith in rw same (drop_more k n es)
drop_more each n e2 = grind (arith, drop_none, suc)

-- and one more
pub forward_more : (s : Shown) (n : ℕ) → moved_forward 1 (moved_forward n s) ≡ moved_forward (n + 1) s
forward_more s n = simp (ap₂, append_assoc, take, drop, take-add, drop_more)

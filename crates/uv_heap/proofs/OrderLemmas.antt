-- The order of timers after a push and a removal.
use Rattle.uv_heap.proofs.Names.{◌≡◌, ℕ, zero, suc, ◌+◌, ◌-◌, ◌<◌, ◌⊎◌, inl, inr, Bool, true, false, List, [], ◌∷◌, ◌++◌, length, refl, sym, ap, ◌∙◌, arith, cond, eqb, count_by, take, set, swap, length_push, length-take-le, take_more, take_all, length-swap, IsPermutation-swap, sum_by-IsPermutation, sum_by-cons, sum_by_push, cases_Bool, false≢true, eqb-true, eqb-false, Entry, is_before, is_same, NoneBefore, IsBeforeAll, IsOrdered, IsInOrder, inserted, without, entry_at, no_entry, parent, IsHeap, Moved, must_rise, must_sink, lesser_child}
use Rattle.uv_heap.specs.Moves.{moved_up, moved_down, settled, pushed, removed}
use Rattle.uv_heap.proofs.Lists.{swapped_at, take-swap}
use Rattle.uv_heap.proofs.Ranks.{ranks, same_is, same_itself}
use Rattle.uv_heap.proofs.MoveLemmas.{if_when, if_true, if_false, child_within}
use Rattle.uv_heap.proofs.HeapOrder.{root_first}

-- one, if the entry passes
abbrev pub one : (Entry → Bool) → Entry → ℕ
one p x = cond (p x) 1 0

pub count_by-cons : (p : Entry → Bool) (x : Entry) (xs : List Entry) → count_by p (x ∷ xs) ≡ one p x + count_by p xs
count_by-cons p x xs = sum_by-cons (one p) x xs

-- ---- the array's entries
count_by-swap : (p : Entry → Bool) (xs : List Entry) (a b : ℕ) → a < length xs → b < length xs → count_by p (swap xs a b) ≡ count_by p xs
count_by-swap p xs a b l m = sum_by-IsPermutation (one p) xs (swap xs a b) (IsPermutation-swap xs (swap xs a b) a b l m refl)

count_by-moved_up : (p : Entry → Bool) (n : ℕ) (xs : List Entry) (i : ℕ) → i < length xs → count_by p (moved_up n xs i).array ≡ count_by p xs
unfolding moved_up
count_by-moved_up p zero xs i l = refl
count_by-moved_up p (suc n) xs i l = if_when (λ (m : Moved). count_by p m.array ≡ count_by p xs) (must_rise xs i) _ _
    (λ e. let long = length-swap xs i (parent i) in
    count_by-moved_up p n (swap xs i (parent i)) (parent i) (omega arith) ∙ count_by-swap p xs i (parent i) l (omega arith)) (λ _. refl)

count_by-moved_down : (p : Entry → Bool) (n : ℕ) (xs : List Entry) (i : ℕ) → i < length xs → count_by p (moved_down n xs i).array ≡ count_by p xs
unfolding moved_down
count_by-moved_down p zero xs i l = refl
count_by-moved_down p (suc n) xs i l = if_when (λ (m : Moved). count_by p m.array ≡ count_by p xs) (must_sink xs i) _ _
    (λ e. let within = child_within xs i e in
    let long = length-swap xs i (lesser_child xs i) in
    count_by-moved_down p n (swap xs i (lesser_child xs i)) (lesser_child xs i) (omega arith) ∙ count_by-swap p xs i (lesser_child xs i) l within)
    (λ _. refl)

count_by-settled : (p : Entry → Bool) (xs : List Entry) (i : ℕ) → i < length xs → count_by p (settled xs i).array ≡ count_by p xs
unfolding settled
count_by-settled p xs i l = grind (arith, if_when, count_by-moved_up, count_by-moved_down)

pub count_by-pushed : (p : Entry → Bool) (xs : List Entry) (e : Entry) → count_by p (pushed xs e).array ≡ one p e + count_by p xs
unfolding pushed
count_by-pushed p xs e = grind (arith, length_push, count_by-moved_up, sum_by_push)

-- what a list has, except its last entry
count_by-taken : (p : Entry → Bool) (xs : List Entry) (n : ℕ) → n + 1 ≡ length xs → count_by p (take n xs) + one p (entry_at xs n) ≡ count_by p xs
count_by-taken p xs n e =
    sym (sum_by_push (one p) (take n xs) (entry_at xs n))
    ∙ ap (count_by p) (sym (take_more xs n no_entry (omega arith)) ∙ take_all (n + 1) xs (omega arith))

pub count_by-removed : (p : Entry → Bool) (xs : List Entry) (i : ℕ) → i < length xs
    → count_by p (removed xs i).array + one p (entry_at xs i) ≡ count_by p xs
unfolding removed
count_by-removed p xs i l = if_when (λ (m : Moved). count_by p m.array + one p (entry_at xs i) ≡ count_by p xs) (eqb i (length xs - 1)) _ _
    (λ e. grind (arith, eqb-true, count_by-taken))
    (λ e. elsewhere (eqb-false i (length xs - 1) e))
  where
    elsewhere : (i ≡ length xs - 1 → ⊥) → count_by p (settled (set (take (length xs - 1) xs) i (entry_at xs (length xs - 1))) i).array + one p
        (entry_at xs i) ≡ count_by p xs
    elsewhere f =
        let n : length xs - 1 + 1 ≡ length xs = omega arith in
        let put = take-swap xs i (length xs - 1) n (omega arith) in
        let long = length-swap xs i (length xs - 1) in
        let short : length (set (take (length xs - 1) xs) i (entry_at xs (length xs - 1))) ≡ length xs - 1 = ap length (sym put)
        ∙ length-take-le (length xs - 1) (swap xs i (length xs - 1)) (omega arith) in
        let last = swapped_at xs i (length xs - 1) l (omega arith) in
        grind (arith, count_by-settled, count_by-taken, count_by-swap)

-- ---- the list in order
pub none_before_all : (a b : Entry) (xs : List Entry) → NoneBefore a xs → is_before a b ≡ false → NoneBefore b xs
none_before_all a b [] h e = tt
none_before_all a b (x ∷ xs) h e = (ranks.chain x a b h.0 e, none_before_all a b xs h.1 e)

none_before_inserted : (e f : Entry) (xs : List Entry) → NoneBefore e xs → is_before f e ≡ false → NoneBefore e (inserted f xs)
none_before_inserted e f [] h g = (g, tt)
none_before_inserted e f (x ∷ xs) h g = if_when (NoneBefore e) (is_before x f) _ _ (λ _. (h.0, none_before_inserted e f xs h.1 g)) (λ _. (g, h))

ordered_inserted : (e : Entry) (xs : List Entry) → IsOrdered xs → IsOrdered (inserted e xs)
ordered_inserted e [] h = (tt, tt)
ordered_inserted e (x ∷ xs) h = if_when IsOrdered (is_before x e) _ _
    (λ t. (none_before_inserted x e xs h.0 (ranks.one_way x e t), ordered_inserted e xs h.1))
    (λ t. ((t, none_before_all x e xs h.0 t), h))

none_before_without : (e f : Entry) (xs : List Entry) → NoneBefore e xs → NoneBefore e (without f xs)
none_before_without e f [] h = tt
none_before_without e f (x ∷ xs) h = if_when (NoneBefore e) (is_same f x) _ _ (λ _. h.1) (λ _. (h.0, none_before_without e f xs h.1))

ordered_without : (f : Entry) (xs : List Entry) → IsOrdered xs → IsOrdered (without f xs)
ordered_without f [] h = tt
ordered_without f (x ∷ xs) h = if_when IsOrdered (is_same f x) _ _ (λ _. h.1) (λ _. (none_before_without x f xs h.0, ordered_without f xs h.1))

count_by-inserted : (p : Entry → Bool) (e : Entry) (xs : List Entry) → count_by p (inserted e xs) ≡ one p e + count_by p xs
count_by-inserted p e [] = count_by-cons p e []
count_by-inserted p e (x ∷ xs) = if_when (λ (ys : List Entry). count_by p ys ≡ one p e + count_by p (x ∷ xs)) (is_before x e) _ _
    (λ _. omega (arith, count_by-cons p x (inserted e xs), count_by-inserted p e xs, count_by-cons p x xs)) (λ _. count_by-cons p e (x ∷ xs))

-- the one that is taken out counts once less
count_by-without : (e f : Entry) (xs : List Entry) → count_by (is_same e) (without f xs) ≡ count_by (is_same e) xs - one (is_same e) f
count_by-without e f [] = omega arith
count_by-without e f (x ∷ xs) = if_when (λ (ys : List Entry). count_by (is_same e) ys ≡ count_by (is_same e) (x ∷ xs) - one (is_same e) f)
    (is_same f x) _ _
    (λ t. let is : one (is_same e) f ≡ one (is_same e) x = ap (one (is_same e)) (same_is f x t) in omega (arith, is, count_by-cons (is_same e) x xs))
    (λ t. kept t (count_by-without e f xs) (cases_Bool (is_same e f)) (cases_Bool (is_same e x))) where
      kept : is_same f x ≡ false → count_by (is_same e) (without f xs) ≡ count_by (is_same e) xs - one (is_same e) f
          → (is_same e f ≡ true) ⊎ (is_same e f ≡ false) → (is_same e x ≡ true) ⊎ (is_same e x ≡ false)
          → count_by (is_same e) (x ∷ without f xs) ≡ count_by (is_same e) (x ∷ xs) - one (is_same e) f
      kept t on (inl p) (inl q) = absurd (false≢true (sym t ∙ ap (λ (y : Entry). is_same y x) (sym (same_is e f p)) ∙ q))
      kept t on (inl p) (inr q) = cc
      kept t on (inr p) q =
          let no : one (is_same e) f ≡ 0 = if_false _ _ _ p in
          omega (arith, no, on, count_by-cons (is_same e) x (without f xs), count_by-cons (is_same e) x xs)

-- ---- the clauses
pub order_pushed : (xs timers : List Entry) (e : Entry) → IsInOrder xs timers → IsInOrder (pushed xs e).array (inserted e timers)
order_pushed xs timers e h = record {
  ordered = ordered_inserted e timers h.ordered;
  same = λ f. count_by-inserted (is_same f) e timers ∙ ap (λ (k : ℕ). one (is_same f) e + k) (h.same f) ∙ sym (count_by-pushed (is_same f) xs e);
}

pub order_removed : (xs timers : List Entry) (i : ℕ) → i < length xs → IsInOrder xs timers
    → IsInOrder (removed xs i).array (without (entry_at xs i) timers)
order_removed xs timers i l h = record {
  ordered = ordered_without (entry_at xs i) timers h.ordered;
  same = λ f. omega (arith, count_by-without f (entry_at xs i) timers, h.same f, count_by-removed (is_same f) xs i l);
}

-- ---- the least
none_before_from : (e : Entry) (xs : List Entry) → ((k : ℕ) → k < length xs → is_before (entry_at xs k) e ≡ false) → NoneBefore e xs
none_before_from e [] h = tt
none_before_from e (x ∷ xs) h = (h 0 (omega arith), none_before_from e xs (λ k l. h (suc k) (omega arith)))

pub least_first : (x : Entry) (xs : List Entry) → IsHeap (x ∷ xs) → NoneBefore x (x ∷ xs)
least_first x xs h = none_before_from x (x ∷ xs) (λ k l. root_first (x ∷ xs) h k k (omega arith) l)

-- an entry that is there does not come before one that none comes before
pub none_before_there : (e f : Entry) (xs : List Entry) → NoneBefore e xs → 0 < count_by (is_same f) xs → is_before f e ≡ false
none_before_there e f [] h l = absurd (omega arith)
none_before_there e f (x ∷ xs) h l = at (cases_Bool (is_same f x)) (none_before_there e f xs h.1) where
  at : (is_same f x ≡ true) ⊎ (is_same f x ≡ false) → (0 < count_by (is_same f) xs → is_before f e ≡ false) → is_before f e ≡ false
  at (inl t) on = ap (λ (y : Entry). is_before y e) (same_is f x t) ∙ h.0
  at (inr t) on = let no : one (is_same f) x ≡ 0 = if_false _ _ _ t in on (omega (arith, no, l, count_by-cons (is_same f) x xs))

-- and comes behind one that comes before all
pub before_all_there : (e f : Entry) (xs : List Entry) → IsBeforeAll e xs → 0 < count_by (is_same f) xs → is_before e f ≡ true
before_all_there e f [] h l = absurd (omega arith)
before_all_there e f (x ∷ xs) h l = at (cases_Bool (is_same f x)) (before_all_there e f xs h.1) where
  at : (is_same f x ≡ true) ⊎ (is_same f x ≡ false) → (0 < count_by (is_same f) xs → is_before e f ≡ true) → is_before e f ≡ true
  at (inl t) on = ap (λ (y : Entry). is_before e y) (same_is f x t) ∙ h.0
  at (inr t) on = let no : one (is_same f) x ≡ 0 = if_false _ _ _ t in on (omega (arith, no, l, count_by-cons (is_same f) x xs))

pub counts_itself : (x : Entry) (xs : List Entry) → 0 < count_by (is_same x) (x ∷ xs)
counts_itself x xs = let yes : one (is_same x) x ≡ 1 = if_true _ _ _ (same_itself x) in omega (arith, yes, count_by-cons (is_same x) x xs)

-- the first in the order is at the root, where no other is due alike
pub first_is_root : (x : Entry) (xs : List Entry) (first : Entry) (others : List Entry) → IsHeap (x ∷ xs) → IsInOrder (x ∷ xs) (first ∷ others)
    → IsBeforeAll first others → x ≡ first
first_is_root x xs first others h order all_behind = at (cases_Bool (is_same x first)) where
  at : (is_same x first ≡ true) ⊎ (is_same x first ≡ false) → x ≡ first
  at (inl t) = same_is x first t
  at (inr t) =
      let no : one (is_same x) first ≡ 0 = if_false _ _ _ t in
      let behind = before_all_there first x others all_behind
      (omega (arith, no, counts_itself x xs, order.same x, count_by-cons (is_same x) first others)) in
      let not_before = none_before_there x first (x ∷ xs) (least_first x xs h) (omega (arith, counts_itself first others, order.same first)) in
      absurd (false≢true (sym not_before ∙ behind))

-- an empty array has no first
pub none_in_empty : (first : Entry) (others : List Entry) → IsInOrder [] (first ∷ others) → ⊥
none_in_empty first others order = omega (arith, counts_itself first others, order.same first)

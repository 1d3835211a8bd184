-- Two lists of the same entries in order are one list, where no two are due alike.
use Rattle.uv_stands.proofs.ProofNames.{◌≡◌, ◌⊎◌, inl, inr, ℕ, suc, ◌+◌, ◌<◌, Bool, true, false, cond, count_by, List, [], ◌∷◌, map, refl, sym, ap, ◌∙◌, subst, arith, slice_index_or, Result, IfOk, IsPermutation, IsSortedBy, cases_Bool, false≢true, sum_by-IsPermutation, sum_by-cons, Id, Due, Entry, no_entry, is_before, is_same, NoneBefore, IsBeforeAll, IsOrdered, IsInOrder, counts_itself, ranks, same_is, State, timer_ids, InOrder, IsReached, Place, Content, Image, OfEach, StandsFor, timer_in, id_in}
use Rattle.uv_arena.specs.Image as arena
use Rattle.uv_stands.proofs.First.{before_all}

-- the ids of the slots of these entries
abbrev pub ids_of : arena.Image Content → List Entry → List Id
ids_of a entries = map (λ (e : Entry). id_in a e.slot) entries

abbrev one : (Entry → Bool) → Entry → ℕ
one p x = cond (p x) 1 0

count_by-cons : (p : Entry → Bool) (x : Entry) (xs : List Entry) → count_by p (x ∷ xs) ≡ one p x + count_by p xs
count_by-cons p x xs = sum_by-cons (one p) x xs

-- ---- sorted entries

none_before_all : (a b : Entry) (xs : List Entry) → NoneBefore a xs → is_before a b ≡ false → NoneBefore b xs
none_before_all a b [] h e = tt
none_before_all a b (x ∷ xs) h e = (ranks.chain x a b h.0 e, none_before_all a b xs h.1 e)

sorted_ordered : (xs : List Entry) → IsSortedBy is_before xs → IsOrdered xs
sorted_ordered (x ∷ y ∷ xs) h =
    let rest = sorted_ordered (y ∷ xs) (λ k d l m.
    let next : suc k + 1 ≡ suc (k + 1) = omega arith in
    subst (λ (n : ℕ). is_before (slice_index_or (x ∷ y ∷ xs) n d) (slice_index_or (y ∷ xs) k d) ≡ false) next
    (h (suc k) d (omega arith) (omega (arith, m)))) in
    let first : is_before y x ≡ false = h 0 no_entry (omega arith) (omega arith) in
    ((first, none_before_all y x xs rest.0 first), rest)
sorted_ordered each h = assumption

-- a sort of the array has its entries in order
pub sorted_in_order : (array xs : List Entry) → IsPermutation array xs → IsSortedBy is_before xs → IsInOrder array xs
sorted_in_order array xs moved sorted = search (sorted_ordered, sum_by-IsPermutation)

-- ---- one order

there_not_before : (e f : Entry) (xs : List Entry) → NoneBefore e xs → 0 < count_by (is_same f) xs → is_before f e ≡ false
there_not_before e f [] h l = absurd (omega arith)
there_not_before e f (x ∷ xs) h l = at (cases_Bool (is_same f x)) (there_not_before e f xs h.1) where
  at : (is_same f x ≡ true) ⊎ (is_same f x ≡ false) → (0 < count_by (is_same f) xs → is_before f e ≡ false) → is_before f e ≡ false
  at (inl t) on = ap (λ (y : Entry). is_before y e) (same_is f x t) ∙ h.0
  at (inr t) on = let no : one (is_same f) x ≡ 0 = ap (λ (b : Bool). cond b 1 0) t in on (omega (arith, no, l, count_by-cons (is_same f) x xs))

there_behind : (e f : Entry) (xs : List Entry) → IsBeforeAll e xs → 0 < count_by (is_same f) xs → is_before e f ≡ true
there_behind e f [] h l = absurd (omega arith)
there_behind e f (x ∷ xs) h l = at (cases_Bool (is_same f x)) (there_behind e f xs h.1) where
  at : (is_same f x ≡ true) ⊎ (is_same f x ≡ false) → (0 < count_by (is_same f) xs → is_before e f ≡ true) → is_before e f ≡ true
  at (inl t) on = ap (λ (y : Entry). is_before e y) (same_is f x t) ∙ h.0
  at (inr t) on = let no : one (is_same f) x ≡ 0 = ap (λ (b : Bool). cond b 1 0) t in on (omega (arith, no, l, count_by-cons (is_same f) x xs))

module _ (a : arena.Image Content) where
  abbrev AreAlike : List Entry → List Entry → Type 0
  AreAlike xs ys = (e : Entry) → count_by (is_same e) xs ≡ count_by (is_same e) ys

  -- the first of both
  same_first : (x : Entry) (xs : List Entry) (y : Entry) (ys : List Entry) → NoneBefore x xs → IsBeforeAll y ys
      → AreAlike (x ∷ xs) (y ∷ ys) → x ≡ y
  same_first x xs y ys h behind alike = at (cases_Bool (is_same x y)) (cases_Bool (is_same y x)) where
    at : (is_same x y ≡ true) ⊎ (is_same x y ≡ false) → (is_same y x ≡ true) ⊎ (is_same y x ≡ false) → x ≡ y
    at (inl t) o = same_is x y t
    at (inr t) (inl u) = sym (same_is y x u)
    at (inr t) (inr u) =
        let no : one (is_same x) y ≡ 0 = ap (λ (b : Bool). cond b 1 0) t in
        let none : one (is_same y) x ≡ 0 = ap (λ (b : Bool). cond b 1 0) u in
        let after = there_behind y x ys behind (omega (arith, no, counts_itself x xs, alike x, count_by-cons (is_same x) y ys)) in
        let not_before = there_not_before x y xs h (omega (arith, none, counts_itself y ys, alike y, count_by-cons (is_same y) x xs)) in
        absurd (false≢true (sym not_before ∙ after))

  one_order : (xs ys : List Entry) → IsOrdered xs → InOrder (map (timer_in a) ys) → AreAlike xs ys → xs ≡ ys
  one_order [] [] h sorted alike = refl
  one_order [] (y ∷ ys) h sorted alike = absurd (omega (arith, counts_itself y ys, alike y))
  one_order (x ∷ xs) [] h sorted alike = absurd (omega (arith, counts_itself x xs, alike x))
  one_order (x ∷ xs) (y ∷ ys) h sorted alike =
      let first = same_first x xs y ys h.0 (before_all a y ys sorted.0) alike in
      let rest = one_order xs ys h.1 sorted.1 (λ e.
      let is : one (is_same e) x ≡ one (is_same e) y = ap (one (is_same e)) first in
      omega (arith, is, alike e, count_by-cons (is_same e) x xs, count_by-cons (is_same e) y ys)) in
      λ l. first l ∷ rest l

  ids_of_timers : (xs : List Entry) → map (λ (t : Due × Id). t.1) (map (timer_in a) xs) ≡ ids_of a xs
  ids_of_timers [] = refl
  ids_of_timers (x ∷ xs) = ap (λ ids. (timer_in a x).1 ∷ ids) (ids_of_timers xs)

-- the entries in order are the timers of the state
pub ids_in_order : (i : Image Place) (s : State) (xs : List Entry) → StandsFor i s → IsReached s → IsInOrder i.heap xs
    → ids_of i.arena xs ≡ timer_ids s
ids_in_order i s xs stands reached order =
    let entries = stands.timers.entries in
    let same : xs ≡ entries = one_order i.arena xs entries order.ordered
    (subst InOrder stands.timers.same reached.timers.sorted) (λ e. order.same e ∙ sym (stands.timers.ordered.same e)) in
    ap (ids_of i.arena) same ∙ sym (ids_of_timers i.arena entries) ∙ ap (map (λ (t : Due × Id). t.1)) (sym stands.timers.same)

-- where the ids were read, they are the state's
pub if_read : {V E : Type 0} (items : V → List Id) (r : Result V E) (i : Image Place) (xs : List Entry) → IsInOrder i.heap xs
    → IfOk r (λ ids. items ids ≡ ids_of i.arena xs) → IfOk r (λ ids. OfEach i (λ s. items ids ≡ timer_ids s))
if_read items r i xs order is = grind (arith, ids_in_order)

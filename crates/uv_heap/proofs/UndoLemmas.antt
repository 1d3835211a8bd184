-- A push and a removal are taken back exactly.
use Rattle.uv_heap.proofs.Names.{◌≡◌, ℕ, zero, suc, ◌+◌, ◌-◌, ◌<◌, ◌≤◌, ◌⊎◌, inl, inr, List, [], ◌∷◌, ◌++◌, Some, None, length, refl, sym, ap, ◌∙◌, arith, eqb, ltb, leb, take, set, swap, position_or_len, length_push, length-take-le, length-set, take_more, take_all, take_at, get_or-take, ext_get_or, Swapped, length-swap, position_or_len_is, fails_before_first, cases_eq, cases_lt, eqb-false, eq-eqb, ne_eqb, le-leb, lt-leb, le-ltb, lt-ltb, Entry, HeapRemoveUndo, entry_at, no_entry, parent, place_in, SlotsDiffer, Moved, must_rise, must_sink, lesser_child, returned}
use Rattle.uv_heap.specs.Moves.{moved_up, moved_down, settled, pushed, removed}
use Rattle.uv_heap.specs.Undo.{raised, lowered, push_undone, removal_undone}
use Rattle.uv_heap.proofs.Lists.{swapped_at, swap-swap, swap_same, take-swap, swap-push}
use Rattle.uv_heap.proofs.MoveLemmas

-- it does not matter which of the two is named first
swap_comm : (xs : List Entry) (a b : ℕ) → a < length xs → b < length xs → swap xs a b ≡ swap xs b a
swap_comm xs a b p q =
    let n = length-swap xs a b in
    let m = length-swap xs b a in
    let s = swapped_at xs a b p q in
    let t = swapped_at xs b a q p in
    ext_get_or no_entry (swap xs a b) (swap xs b a) (n ∙ sym m) (λ i _. at i s t (cases_eq i a) (cases_eq i b))
  where
    at : (i : ℕ) → Swapped (λ k. entry_at xs k) (λ k. entry_at (swap xs a b) k) a b → Swapped (λ k. entry_at xs k) (λ k. entry_at (swap xs b a) k) b a
        → (i ≡ a) ⊎ (i ≡ a → ⊥) → (i ≡ b) ⊎ (i ≡ b → ⊥) → entry_at (swap xs a b) i ≡ entry_at (swap xs b a) i
    at i s t e3 e4 = grind arith

-- ---- the push
pub length-pushed : (xs : List Entry) (e : Entry) → length (pushed xs e).array ≡ length xs + 1
unfolding pushed
length-pushed xs e = MoveLemmas.length-moved_up (length xs) (xs ++ e ∷ []) (length xs) ∙ length_push xs e

pub place-pushed : (xs : List Entry) (e : Entry) → (pushed xs e).place ≤ length xs
unfolding pushed
place-pushed xs e = MoveLemmas.moved_up_above (length xs) (xs ++ e ∷ []) (length xs)

pub push_undone-pushed : (xs : List Entry) (e : Entry) → push_undone (pushed xs e).array (pushed xs e).place ≡ xs
unfolding pushed push_undone
push_undone-pushed xs e =
    let n = length_push xs e in
    let long = length-pushed xs e in
    let last : length (pushed xs e).array - 1 ≡ length xs = omega arith in
    ap (λ (k : ℕ). take k (lowered k (pushed xs e).array (pushed xs e).place k)) last
    ∙ ap (λ (ys : List Entry). take (length xs) (lowered (length xs) ys (pushed xs e).place (length xs)))
    (sym (MoveLemmas.raised-moved_up (length xs) (xs ++ e ∷ []) (length xs)))
    ∙ ap (take (length xs)) (MoveLemmas.lowered-raised (length xs) (xs ++ e ∷ []) (length xs) (pushed xs e).place (omega arith))
    ∙ take_at xs (e ∷ []) (length xs) refl

-- ---- the removal
-- the entry that settled goes back
returned-settled : (xs : List Entry) (i : ℕ) → i < length xs → returned (settled xs i).array (settled xs i).place i ≡ xs
unfolding settled
returned-settled xs i l = MoveLemmas.if_when (λ (m : Moved). returned m.array m.place i ≡ xs) (must_rise xs i) _ _
    (λ _. let above = MoveLemmas.moved_up_above i xs i in
    MoveLemmas.if_true _ _ _ (le-leb _ i above)
    ∙ ap (λ (ys : List Entry). lowered i ys (moved_up i xs i).place i) (sym (MoveLemmas.raised-moved_up i xs i))
    ∙ MoveLemmas.lowered-raised i xs i (moved_up i xs i).place l)
    (λ _. down (cases_lt i (moved_down (length xs) xs i).place)
    (MoveLemmas.raised-moved_down (length xs) xs i i (omega arith) l ∙ MoveLemmas.raised_end xs i i (omega arith)))
  where
    down : (i < (moved_down (length xs) xs i).place) ⊎ ((moved_down (length xs) xs i).place ≤ i)
        → raised (moved_down (length xs) xs i).place (moved_down (length xs) xs i).array (moved_down (length xs) xs i).place i ≡ xs
        → returned (moved_down (length xs) xs i).array (moved_down (length xs) xs i).place i ≡ xs
    down (inl under) back = MoveLemmas.if_false _ _ _ (lt-leb _ i under) ∙ back
    down (inr here) back =
        let within = (MoveLemmas.moved_down_within (length xs) xs i l).0 in
        MoveLemmas.if_true _ _ _ (le-leb _ i here)
        ∙ MoveLemmas.lowered_end (moved_down (length xs) xs i).array (moved_down (length xs) xs i).place i within
        ∙ sym (MoveLemmas.raised_end (moved_down (length xs) xs i).array (moved_down (length xs) xs i).place i here) ∙ back

-- the last entry put at a place
abbrev put : List Entry → ℕ → List Entry
put xs i = set (take (length xs - 1) xs) i (entry_at xs (length xs - 1))

length-put : (xs : List Entry) (i : ℕ) → length (put xs i) ≡ length xs - 1
length-put xs i = length-set (take (length xs - 1) xs) i (entry_at xs (length xs - 1)) ∙ length-take-le (length xs - 1) xs (omega arith)

-- the last entry put at a place, and taken back
unput : (xs : List Entry) (i : ℕ) → i + 1 < length xs → set (put xs i) i (entry_at xs i) ++ entry_at (put xs i) i ∷ [] ≡ xs
unput xs i l =
    let n : length xs - 1 + 1 ≡ length xs = omega arith in
    let is : put xs i ≡ take (length xs - 1) (swap xs i (length xs - 1)) = sym (take-swap xs i (length xs - 1) n (omega arith)) in
    let long = length-swap xs i (length xs - 1) in
    let last = swapped_at xs i (length xs - 1) (omega arith) (omega arith) in
    let whole : put xs i ++ entry_at xs i ∷ [] ≡ swap xs i (length xs - 1) =
    ap (λ (ys : List Entry). ys ++ entry_at xs i ∷ []) is
    ∙ ap (λ (x : Entry). take (length xs - 1) (swap xs i (length xs - 1)) ++ x ∷ []) (sym last.1)
    ∙ sym (take_more (swap xs i (length xs - 1)) (length xs - 1) no_entry (omega arith))
    ∙ take_all (length xs - 1 + 1) (swap xs i (length xs - 1)) (omega arith) in
    let short = length-put xs i in
    sym (swap-push (put xs i) i (entry_at xs i) (omega arith))
    ∙ ap (λ (k : ℕ). swap (put xs i ++ entry_at xs i ∷ []) i k) short
    ∙ ap (λ (ys : List Entry). swap ys i (length xs - 1)) (whole ∙ swap_comm xs i (length xs - 1) (omega arith) (omega arith))
    ∙ swap-swap xs (length xs - 1) i (omega arith) (omega arith)

pub length-removed : (xs : List Entry) (i : ℕ) → i < length xs → length (removed xs i).array + 1 ≡ length xs
unfolding removed
length-removed xs i l = MoveLemmas.if_when (λ (m : Moved). length m.array + 1 ≡ length xs) (eqb i (length xs - 1)) _ _
    (λ _. omega (arith, length-take-le (length xs - 1) xs (omega arith)))
    (λ _. omega (arith, MoveLemmas.length-settled (put xs i) i, length-put xs i))

pub place-removed : (xs : List Entry) (i : ℕ) → i + 1 < length xs → (removed xs i).place + 1 < length xs
unfolding removed
place-removed xs i l = MoveLemmas.if_when (λ (m : Moved). m.place + 1 < length xs) (eqb i (length xs - 1)) _ _
    (λ _. l)
    (λ _. let short = length-put xs i in omega (arith, MoveLemmas.settled_within (put xs i) i (omega arith), short))

pub removal_undone-removed : (xs : List Entry) (undo : HeapRemoveUndo) → undo.place < length xs → undo.rest ≡ (removed xs undo.place).place
    → undo.entry ≡ entry_at xs undo.place → removal_undone (removed xs undo.place).array undo ≡ xs
unfolding removed removal_undone
removal_undone-removed xs undo l rest entry = at (cases_eq undo.place (length xs - 1)) where
  at : (undo.place ≡ length xs - 1) ⊎ (undo.place ≡ length xs - 1 → ⊥) → removal_undone (removed xs undo.place).array undo ≡ xs
  at (inl e) = grind (arith, length-take-le, eq-eqb, take_more, take_all)
  at (inr f) =
      let moved : removed xs undo.place ≡ settled (put xs undo.place) undo.place = MoveLemmas.if_false _ _ _ (ne_eqb undo.place (length xs - 1) f) in
      let short = length-put xs undo.place in
      let long = MoveLemmas.length-settled (put xs undo.place) undo.place in
      let back : returned (settled (put xs undo.place) undo.place).array undo.rest undo.place ≡ put xs undo.place =
      ap (λ (k : ℕ). returned (settled (put xs undo.place) undo.place).array k undo.place) (rest ∙ ap (λ (m : Moved). m.place) moved)
      ∙ returned-settled (put xs undo.place) undo.place (omega arith) in
      grind (arith, ne_eqb, unput)

-- ---- a slot that is on no entry
-- no entry has the slot
pub record Avoids (xs : List Entry) (slot : ℕ) : Type 0 where
  pub none : (k : ℕ) → k < length xs → (entry_at xs k).slot ≡ slot → ⊥

pub avoids_from : (xs : List Entry) (slot : ℕ) → place_in xs slot ≡ None → Avoids xs slot
avoids_from xs slot e = grind (arith, cases_lt, lt-ltb, eqb-false, fails_before_first)

pub avoids_is : (xs : List Entry) (slot : ℕ) → Avoids xs slot → place_in xs slot ≡ None
avoids_is xs slot h =
    let all : position_or_len (λ (x : Entry). eqb x.slot slot) xs ≡ length xs =
    position_or_len_is (λ (x : Entry). eqb x.slot slot) xs (length xs) no_entry (omega arith) (λ k l. ne_eqb _ _ (h.none k l))
    (λ l. absurd (omega arith)) in
    MoveLemmas.if_false _ _ _ (le-ltb _ (length xs) (omega arith))

avoids_swap : (xs : List Entry) (a b slot : ℕ) → a < length xs → b < length xs → Avoids xs slot → Avoids (swap xs a b) slot
avoids_swap xs a b slot p q h =
    let long = length-swap xs a b in
    let s = swapped_at xs a b p q in
    record { none = λ k l e. at k s (omega arith) e (cases_eq k a) (cases_eq k b) }
  where
    at : (k : ℕ) → Swapped (λ j. entry_at xs j) (λ j. entry_at (swap xs a b) j) a b → k < length xs → (entry_at (swap xs a b) k).slot ≡ slot
        → (k ≡ a) ⊎ (k ≡ a → ⊥) → (k ≡ b) ⊎ (k ≡ b → ⊥) → ⊥
    at k s l e e4 e5 = grind arith

avoids_raised : (n : ℕ) (xs : List Entry) (from to slot : ℕ) → from < length xs → Avoids xs slot → Avoids (raised n xs from to) slot
unfolding raised
avoids_raised zero xs from to slot l h = h
avoids_raised (suc n) xs from to slot l h = MoveLemmas.if_when (λ (ys : List Entry). Avoids ys slot) (ltb to from) _ _
    (λ _. let long = length-swap xs from (parent from) in
    avoids_raised n (swap xs from (parent from)) (parent from) to slot (omega arith) (avoids_swap xs from (parent from) slot l (omega arith) h))
    (λ _. h)

avoids_lowered : (n : ℕ) (xs : List Entry) (from to slot : ℕ) → to < length xs → Avoids xs slot → Avoids (lowered n xs from to) slot
unfolding lowered
avoids_lowered zero xs from to slot l h = h
avoids_lowered (suc n) xs from to slot l h = MoveLemmas.if_when (λ (ys : List Entry). Avoids ys slot) (ltb from to) _ _
    (λ _. let long = MoveLemmas.length-lowered n xs from (parent to) in
    avoids_swap (lowered n xs from (parent to)) (parent to) to slot (omega arith) (omega arith)
    (avoids_lowered n xs from (parent to) slot (omega arith) h)) (λ _. h)

pub avoids_returned : (xs : List Entry) (rest place slot : ℕ) → rest < length xs → place < length xs → Avoids xs slot
    → Avoids (returned xs rest place) slot
avoids_returned xs rest place slot l m h = grind (arith, avoids_lowered, avoids_raised)

pub length-returned : (xs : List Entry) (rest place : ℕ) → length (returned xs rest place) ≡ length xs
length-returned xs rest place = MoveLemmas.if_when (λ (ys : List Entry). length ys ≡ length xs) (leb rest place) _ _
    (λ _. MoveLemmas.length-lowered place xs rest place) (λ _. MoveLemmas.length-raised rest xs rest place)

-- ---- what the changes make, by the steps of the code
pub pushed_is : (xs : List Entry) (e : Entry) → moved_up (length xs) (xs ++ e ∷ []) (length xs) ≡ pushed xs e
unfolding pushed
pushed_is xs e = refl

pub push_undone_is : (xs : List Entry) (place last : ℕ) → last ≡ length xs - 1 → take last (lowered last xs place last) ≡ push_undone xs place
unfolding push_undone
push_undone_is xs place last e = ap (λ (n : ℕ). take n (lowered n xs place n)) e

pub removed_last : (xs : List Entry) (i : ℕ) → i < length xs → i ≡ length xs - 1 → record { array = take i (swap xs i i); place = i } ≡ removed xs i
unfolding removed
removed_last xs i l e = grind (arith, swap_same, eq-eqb)

pub removed_inner : (xs : List Entry) (i n : ℕ) → n + 1 ≡ length xs → i < n → settled (take n (swap xs i n)) i ≡ removed xs i
unfolding removed
removed_inner xs i n e l = grind (arith, take-swap, ne_eqb)

pub removal_undone_last : (xs : List Entry) (undo : HeapRemoveUndo) → undo.place ≡ length xs → xs ++ undo.entry ∷ [] ≡ removal_undone xs undo
unfolding removal_undone
removal_undone_last xs undo e = sym (MoveLemmas.if_true _ _ _ (eq-eqb undo.place (length xs) e))

pub removal_undone_inner : (xs : List Entry) (undo : HeapRemoveUndo) → undo.place < length xs
    → swap (returned xs undo.rest undo.place ++ undo.entry ∷ []) undo.place (length xs) ≡ removal_undone xs undo
unfolding removal_undone
removal_undone_inner xs undo l = grind (arith, length-returned, swap-push, ne_eqb)

-- ---- the slot of a removed entry is on no entry
avoids_moved_up : (n : ℕ) (xs : List Entry) (i slot : ℕ) → i < length xs → Avoids xs slot → Avoids (moved_up n xs i).array slot
unfolding moved_up
avoids_moved_up zero xs i slot l h = h
avoids_moved_up (suc n) xs i slot l h = MoveLemmas.if_when (λ (m : Moved). Avoids m.array slot) (must_rise xs i) _ _
    (λ _. let long = length-swap xs i (parent i) in
    avoids_moved_up n (swap xs i (parent i)) (parent i) slot (omega arith) (avoids_swap xs i (parent i) slot l (omega arith) h)) (λ _. h)

avoids_moved_down : (n : ℕ) (xs : List Entry) (i slot : ℕ) → i < length xs → Avoids xs slot → Avoids (moved_down n xs i).array slot
unfolding moved_down
avoids_moved_down zero xs i slot l h = h
avoids_moved_down (suc n) xs i slot l h = MoveLemmas.if_when (λ (m : Moved). Avoids m.array slot) (must_sink xs i) _ _
    (λ e. let within = MoveLemmas.child_within xs i e in
    let long = length-swap xs i (lesser_child xs i) in
    avoids_moved_down n (swap xs i (lesser_child xs i)) (lesser_child xs i) slot (omega arith) (avoids_swap xs i (lesser_child xs i) slot l within h))
    (λ _. h)

avoids_settled : (xs : List Entry) (i slot : ℕ) → i < length xs → Avoids xs slot → Avoids (settled xs i).array slot
unfolding settled
avoids_settled xs i slot l h = grind (arith, avoids_moved_up, avoids_moved_down)

-- the entry changed places with the last one, and went
avoids_left : (xs : List Entry) (i n : ℕ) → n + 1 ≡ length xs → i ≤ n → SlotsDiffer xs → Avoids (take n (swap xs i n)) (entry_at xs i).slot
avoids_left xs i n e l differ =
    let long = length-swap xs i n in
    let short = length-take-le n (swap xs i n) (omega arith) in
    let s = swapped_at xs i n (omega arith) (omega arith) in
    record {
      none = grind (arith, get_or-take, cases_eq);
    }
  where
    at : (k : ℕ) → Swapped (λ j. entry_at xs j) (λ j. entry_at (swap xs i n) j) i n → k < n → (entry_at (swap xs i n) k).slot ≡ (entry_at xs i).slot
        → (k ≡ i) ⊎ (k ≡ i → ⊥) → ⊥
    at k s m f e4 = grind arith

pub avoids_removed : (xs : List Entry) (i : ℕ) → i < length xs → SlotsDiffer xs → Avoids (removed xs i).array (entry_at xs i).slot
avoids_removed xs i l differ = at (cases_eq i (length xs - 1)) where
  at : (i ≡ length xs - 1) ⊎ (i ≡ length xs - 1 → ⊥) → Avoids (removed xs i).array (entry_at xs i).slot
  at (inl e) = rw (← removed_last xs i l e) (avoids_left xs i i (omega arith) (omega arith) differ)
  at (inr f) =
      let n : length xs - 1 + 1 ≡ length xs = omega arith in
      let long = length-swap xs i (length xs - 1) in
      let short = length-take-le (length xs - 1) (swap xs i (length xs - 1)) (omega arith) in
      rw (← removed_inner xs i (length xs - 1) n (omega arith))
      (grind (arith, avoids_settled, avoids_left))

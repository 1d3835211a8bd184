-- No entry comes before its parent, again after a push or a removal.
use Rattle.uv_heap.proofs.Names.{◌≡◌, ℕ, zero, suc, ◌+◌, ◌-◌, ◌*◌, ◌<◌, ◌≤◌, ◌⊎◌, inl, inr, Bool, true, false, List, [], ◌∷◌, ◌++◌, length, sym, ap, ◌∙◌, arith, ltb, eqb, ◌&&◌, take, set, swap, length_push, length-set, length-take-le, get_or-set_other, get_or-take, get_or_append_left, Swapped, length-swap, and_cases, and_parts, cases_eq, cases_lt, ltb-false, eqb-false, Entry, is_before, entry_at, no_entry, parent, IsHeap, Moved, must_rise, must_sink, lesser_child}
use Rattle.uv_heap.specs.Moves.{moved_up, moved_down, settled, pushed, removed}
use Rattle.uv_heap.proofs.Lists.{swapped_at}
use Rattle.uv_heap.proofs.Ranks.{ranks, itself}
use Rattle.uv_heap.proofs.MoveLemmas.{if_when, child_is, child_within, rises_from}

-- the first does not come before the second, whatever they are called
by : (a b x y : Entry) → a ≡ x → b ≡ y → is_before x y ≡ false → is_before a b ≡ false
by a b x y p q h = (λ i. is_before (p i) (q i)) ∙ h

-- whether the entry at one place comes before that at another
abbrev before : List Entry → ℕ → ℕ → Bool
before xs a b = is_before (entry_at xs a) (entry_at xs b)

itself_at : (xs : List Entry) (a b : ℕ) → a ≡ b → before xs a b ≡ false
itself_at xs a b e = ap (λ (k : ℕ). before xs k b) e ∙ itself (entry_at xs b)

chain : (xs : List Entry) (a b c : ℕ) → before xs a b ≡ false → before xs b c ≡ false → before xs a c ≡ false
chain xs a b c = ranks.chain (entry_at xs a) (entry_at xs b) (entry_at xs c)

one_way : (xs : List Entry) (a b : ℕ) → before xs a b ≡ true → before xs b a ≡ false
one_way xs a b = ranks.one_way (entry_at xs a) (entry_at xs b)

first_is : (xs : List Entry) (a c b : ℕ) → a ≡ c → before xs c b ≡ false → before xs a b ≡ false
first_is xs a c b e h = ap (λ (k : ℕ). before xs k b) e ∙ h

second_is : (xs : List Entry) (a b c : ℕ) → b ≡ c → before xs a b ≡ false → before xs a c ≡ false
second_is xs a b c e h = ap (before xs a) (sym e) ∙ h

-- the array would be a heap, except the entry at a place
pub record HasHole (xs : List Entry) (i : ℕ) : Type 0 where
  pub others : (k : ℕ) → k < length xs → (k ≡ i → ⊥) → (parent k ≡ i → ⊥) → is_before (entry_at xs k) (entry_at xs (parent k)) ≡ false
  pub across : (k : ℕ) → k < length xs → 0 < i → parent k ≡ i → is_before (entry_at xs k) (entry_at xs (parent i)) ≡ false

-- its children don't come before it
pub record FitsAbove (xs : List Entry) (i : ℕ) : Type 0 where
  pub children : (k : ℕ) → k < length xs → 0 < k → parent k ≡ i → is_before (entry_at xs k) (entry_at xs i) ≡ false

-- it doesn't come before its parent
pub record FitsBelow (xs : List Entry) (i : ℕ) : Type 0 where
  pub parent_first : 0 < i → is_before (entry_at xs i) (entry_at xs (parent i)) ≡ false

fits : (xs : List Entry) (i : ℕ) → HasHole xs i → FitsAbove xs i → FitsBelow xs i → IsHeap xs
fits xs i h above below = λ k l. at k l (cases_eq k i) (cases_eq (parent k) i) (cases_lt 0 k) where
  at : (k : ℕ) → k < length xs → (k ≡ i) ⊎ (k ≡ i → ⊥) → (parent k ≡ i) ⊎ (parent k ≡ i → ⊥) → (0 < k) ⊎ (k ≤ 0)
      → is_before (entry_at xs k) (entry_at xs (parent k)) ≡ false
  at k l e2 e3 e4 = grind arith

-- ---- up
module _ (xs : List Entry) (i : ℕ) (p : 0 < i) (l : i < length xs) (less : is_before (entry_at xs i) (entry_at xs (parent i)) ≡ true)
    (h : HasHole xs i) where
  swapped : Swapped (λ k. entry_at xs k) (λ k. entry_at (swap xs i (parent i)) k) i (parent i)
  swapped = swapped_at xs i (parent i) l (omega arith)

  hole_up : HasHole (swap xs i (parent i)) (parent i)
  hole_up =
      let long = length-swap xs i (parent i) in
      record {
        others = λ k m e f. others k (omega arith) e f (cases_eq (parent k) i);
        across = λ k m z e. across k (omega arith) z e (cases_eq k i);
      }
    where
      others : (k : ℕ) → k < length xs → (k ≡ parent i → ⊥) → (parent k ≡ parent i → ⊥) → (parent k ≡ i) ⊎ (parent k ≡ i → ⊥)
          → is_before (entry_at (swap xs i (parent i)) k) (entry_at (swap xs i (parent i)) (parent k)) ≡ false
      others k m e f (inl g) =
          let not_i : k ≡ i → ⊥ = λ z. f (ap parent z) in
          by _ _ _ _ (swapped.2 k not_i e) (ap (entry_at (swap xs i (parent i))) g ∙ swapped.0) (h.across k m p g)
      others k m e f (inr g) =
          let not_i : k ≡ i → ⊥ = λ z. f (ap parent z) in
          by _ _ _ _ (swapped.2 k not_i e) (swapped.2 (parent k) g f) (h.others k m not_i g)

      across : (k : ℕ) → k < length xs → 0 < parent i → parent k ≡ parent i → (k ≡ i) ⊎ (k ≡ i → ⊥)
          → is_before (entry_at (swap xs i (parent i)) k) (entry_at (swap xs i (parent i)) (parent (parent i))) ≡ false
      across k m z e (inl g) =
          by _ _ _ _ (ap (entry_at (swap xs i (parent i))) g ∙ swapped.0) (swapped.2 (parent (parent i)) (omega arith) (omega arith))
          (h.others (parent i) (omega arith) (omega arith) (omega arith))
      across k m z e (inr g) =
          by _ _ _ _ (swapped.2 k g (omega arith)) (swapped.2 (parent (parent i)) (omega arith) (omega arith))
          (chain xs k (parent i) (parent (parent i)) (second_is xs k (parent k) (parent i) e (h.others k m g (omega arith)))
          (h.others (parent i) (omega arith) (omega arith) (omega arith)))

  above_up : FitsAbove (swap xs i (parent i)) (parent i)
  above_up = let long = length-swap xs i (parent i) in
      record { children = λ k m z e. children k (omega arith) e (cases_eq k i) (cases_eq k (parent i)) } where
        children : (k : ℕ) → k < length xs → parent k ≡ parent i → (k ≡ i) ⊎ (k ≡ i → ⊥) → (k ≡ parent i) ⊎ (k ≡ parent i → ⊥)
            → is_before (entry_at (swap xs i (parent i)) k) (entry_at (swap xs i (parent i)) (parent i)) ≡ false
        children k m e (inl g) f = by _ _ _ _ (ap (entry_at (swap xs i (parent i))) g ∙ swapped.0) swapped.1 (one_way xs i (parent i) less)
        children k m e (inr g) (inl f) = itself_at (swap xs i (parent i)) k (parent i) f
        children k m e (inr g) (inr f) =
            by _ _ _ _ (swapped.2 k g f) swapped.1
            (chain xs k (parent i) i (second_is xs k (parent k) (parent i) e (h.others k m g (omega arith))) (one_way xs i (parent i) less))

pub heap_from_up : (n : ℕ) (xs : List Entry) (i : ℕ) → i ≤ n → i < length xs → HasHole xs i → FitsAbove xs i → IsHeap (moved_up n xs i).array
unfolding moved_up
heap_from_up zero xs i q l h above = fits xs i h above (record { parent_first = λ p. absurd (omega arith) })
heap_from_up (suc n) xs i q l h above = if_when (λ (m : Moved). IsHeap m.array) (must_rise xs i) _ _
    (λ e. let p = rises_from xs i e in
    let less = (and_parts (ltb 0 i) _ e).1 in
    let long = length-swap xs i (parent i) in
    heap_from_up n (swap xs i (parent i)) (parent i) (omega arith) (omega arith) (hole_up xs i p l less h) (above_up xs i p l less h))
    (λ e. fits xs i h above (grind arith)) where
      stays : 0 < i → (ltb 0 i ≡ false) ⊎ (is_before (entry_at xs i) (entry_at xs (parent i)) ≡ false)
          → is_before (entry_at xs i) (entry_at xs (parent i)) ≡ false
      stays p e1 = grind arith

-- ---- down
-- no child comes before the lesser one
lesser : (xs : List Entry) (i k : ℕ) → k < length xs → 0 < k → parent k ≡ i → is_before (entry_at xs k) (entry_at xs (lesser_child xs i)) ≡ false
lesser xs i k l z e = if_when (λ (c : ℕ). is_before (entry_at xs k) (entry_at xs c) ≡ false)
    (ltb (2 * i + 2) (length xs) && is_before (entry_at xs (2 * i + 2)) (entry_at xs (2 * i + 1))) (2 * i + 2) (2 * i + 1)
    (λ t. right ((and_parts (ltb (2 * i + 2) (length xs)) _ t).1) (cases_eq k (2 * i + 2)))
    (λ t. left (and_cases (ltb (2 * i + 2) (length xs)) (is_before (entry_at xs (2 * i + 2)) (entry_at xs (2 * i + 1))) t)
    (cases_eq k (2 * i + 1))) where
      right : is_before (entry_at xs (2 * i + 2)) (entry_at xs (2 * i + 1)) ≡ true → (k ≡ 2 * i + 2) ⊎ (k ≡ 2 * i + 2 → ⊥)
          → is_before (entry_at xs k) (entry_at xs (2 * i + 2)) ≡ false
      right t (inl f) = itself_at xs k (2 * i + 2) f
      right t (inr f) = first_is xs k (2 * i + 1) (2 * i + 2) (omega arith) (one_way xs (2 * i + 2) (2 * i + 1) t)

      left : (ltb (2 * i + 2) (length xs) ≡ false) ⊎ (is_before (entry_at xs (2 * i + 2)) (entry_at xs (2 * i + 1)) ≡ false)
          → (k ≡ 2 * i + 1) ⊎ (k ≡ 2 * i + 1 → ⊥) → is_before (entry_at xs k) (entry_at xs (2 * i + 1)) ≡ false
      left t (inl f) = itself_at xs k (2 * i + 1) f
      left (inl t) (inr f) = absurd (omega (arith, ltb-false (2 * i + 2) (length xs) t))
      left (inr t) (inr f) = first_is xs k (2 * i + 2) (2 * i + 1) (omega arith) t

module _ (xs : List Entry) (i c : ℕ) (l : i < length xs) (m : c < length xs) (child : parent c ≡ i) (under : i < c)
    (less : is_before (entry_at xs c) (entry_at xs i) ≡ true)
    (least : (k : ℕ) → k < length xs → 0 < k → parent k ≡ i → is_before (entry_at xs k) (entry_at xs c) ≡ false)
    (h : HasHole xs i) where
  exchanged : Swapped (λ k. entry_at xs k) (λ k. entry_at (swap xs i c) k) i c
  exchanged = swapped_at xs i c l m

  hole_down : HasHole (swap xs i c) c
  hole_down =
      let long = length-swap xs i c in
      record {
        others = λ k n e f. others k (omega arith) e f (cases_eq k i) (cases_eq (parent k) i) (cases_lt 0 k);
        across = λ k n z e.
            by _ _ _ _ (exchanged.2 k (omega arith) (omega arith)) (ap (entry_at (swap xs i c)) child ∙ exchanged.0 ∙ ap (entry_at xs) (sym e))
            (h.others k (omega arith) (omega arith) (omega arith));
      }
    where
      others : (k : ℕ) → k < length xs → (k ≡ c → ⊥) → (parent k ≡ c → ⊥) → (k ≡ i) ⊎ (k ≡ i → ⊥) → (parent k ≡ i) ⊎ (parent k ≡ i → ⊥)
          → (0 < k) ⊎ (k ≤ 0) → is_before (entry_at (swap xs i c) k) (entry_at (swap xs i c) (parent k)) ≡ false
      others k n e f g a (inr z) = itself_at (swap xs i c) k (parent k) (omega arith)
      others k n e f (inl g) a (inl z) =
          by _ _ _ _ (ap (entry_at (swap xs i c)) g ∙ exchanged.0)
          (ap (λ (j : ℕ). entry_at (swap xs i c) (parent j)) g ∙ exchanged.2 (parent i) (omega arith) (omega arith))
          (h.across c m (omega arith) child)
      others k n e f (inr g) (inl a) (inl z) = by _ _ _ _ (exchanged.2 k g e) (ap (entry_at (swap xs i c)) a ∙ exchanged.0) (least k n z a)
      others k n e f (inr g) (inr a) (inl z) = by _ _ _ _ (exchanged.2 k g e) (exchanged.2 (parent k) a f) (h.others k n g a)

  below_down : FitsBelow (swap xs i c) c
  below_down = record { parent_first = λ _. by _ _ _ _ exchanged.1 (ap (entry_at (swap xs i c)) child ∙ exchanged.0) (one_way xs c i less) }

pub heap_from_down : (n : ℕ) (xs : List Entry) (i : ℕ) → length xs ≤ n + i → i < length xs → HasHole xs i → FitsBelow xs i
    → IsHeap (moved_down n xs i).array
unfolding moved_down
heap_from_down zero xs i q l h below = absurd (omega arith)
heap_from_down (suc n) xs i q l h below = if_when (λ (m : Moved). IsHeap m.array) (must_sink xs i) _ _
    (λ e. let c = child_is xs i in
    let within = child_within xs i e in
    let less = (and_parts (ltb (2 * i + 1) (length xs)) _ e).1 in
    let long = length-swap xs i (lesser_child xs i) in
    let hole = hole_down xs i (lesser_child xs i) l within c.0 c.1 less (lesser xs i) h in
    let fine = below_down xs i (lesser_child xs i) l within c.0 c.1 less (lesser xs i) h in
    heap_from_down n (swap xs i (lesser_child xs i)) (lesser_child xs i) (omega arith) (omega arith) hole fine)
    (λ e. fits xs i h (record {
      children = λ k m z f. stays k m z f
          (and_cases (ltb (2 * i + 1) (length xs)) (is_before (entry_at xs (lesser_child xs i)) (entry_at xs i)) e);
    }) below) where
      stays : (k : ℕ) → k < length xs → 0 < k → parent k ≡ i
          → (ltb (2 * i + 1) (length xs) ≡ false) ⊎ (is_before (entry_at xs (lesser_child xs i)) (entry_at xs i) ≡ false)
          → is_before (entry_at xs k) (entry_at xs i) ≡ false
      stays k m z f (inl t) = absurd (omega (arith, ltb-false (2 * i + 1) (length xs) t))
      stays k m z f (inr t) = chain xs k (lesser_child xs i) i (lesser xs i k m z f) t

-- ---- the whole
pub heap_settled : (xs : List Entry) (i : ℕ) → i < length xs → HasHole xs i → IsHeap (settled xs i).array
unfolding settled
heap_settled xs i l h = if_when (λ (m : Moved). IsHeap m.array) (must_rise xs i) _ _
    (λ e. let p = rises_from xs i e in
    let less = (and_parts (ltb 0 i) _ e).1 in
    heap_from_up i xs i (omega arith) l h (record {
      children = λ k m z f. chain xs k (parent i) i (h.across k m p f)
          (one_way xs i (parent i) less);
    }))
    (λ e. grind (arith, heap_from_down, and_cases)) where
      stays : 0 < i → (ltb 0 i ≡ false) ⊎ (is_before (entry_at xs i) (entry_at xs (parent i)) ≡ false)
          → is_before (entry_at xs i) (entry_at xs (parent i)) ≡ false
      stays p e1 = grind arith

pub heap_pushed : (xs : List Entry) (e : Entry) → IsHeap xs → IsHeap (pushed xs e).array
unfolding pushed
heap_pushed xs e h = grind (arith, length_push, heap_from_up, by, get_or_append_left)

heap_taken : (xs : List Entry) (n : ℕ) → n ≤ length xs → IsHeap xs → IsHeap (take n xs)
heap_taken xs n p h = grind (arith, length-take-le, by, get_or-take)

hole_put : (xs : List Entry) (i n : ℕ) (x : Entry) → n ≤ length xs → i < n → IsHeap xs → HasHole (set (take n xs) i x) i
hole_put xs i n x p l h = grind (arith, length-take-le, length-set, by, chain, second_is, get_or-set_other, get_or-take)

pub heap_removed : (xs : List Entry) (i : ℕ) → i < length xs → IsHeap xs → IsHeap (removed xs i).array
unfolding removed
heap_removed xs i l h = if_when (λ (m : Moved). IsHeap m.array) (eqb i (length xs - 1)) _ _
    (λ e. heap_taken xs (length xs - 1) (omega arith) h)
    (λ e. let elsewhere = eqb-false i (length xs - 1) e in
    let short = length-take-le (length xs - 1) xs (omega arith) in
    let long = length-set (take (length xs - 1) xs) i (entry_at xs (length xs - 1)) in
    heap_settled (set (take (length xs - 1) xs) i (entry_at xs (length xs - 1))) i (omega arith)
    (hole_put xs i (length xs - 1) _ (omega arith) (omega arith) h))

-- the root comes before no other
pub root_first : (xs : List Entry) → IsHeap xs → (n k : ℕ) → k ≤ n → k < length xs → is_before (entry_at xs k) (entry_at xs 0) ≡ false
root_first xs h zero k p l = itself_at xs k 0 (omega arith)
root_first xs h (suc n) k p l = grind (arith, cases_lt, chain, itself_at, (root_first xs h n (parent k)))

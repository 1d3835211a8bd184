-- The places stay right.
use Rattle.uv_heap.proofs.Names.{◌≡◌, ℕ, zero, suc, replicate, ◌+◌, ◌-◌, ◌<◌, ◌≤◌, ◌^◌, ◌⊎◌, inl, inr, Bool, List, [], ◌∷◌, ◌++◌, length, get_or, set, take, refl, sym, ap, ◌∙◌, arith, Option, Some, None, count_by, eqb, cond, ltb, IfSome, is_some, swap, position_or_len, get_or-set_same, get_or-set_other, get_or_append_left, get_or-append_right, get_or_push, get_or_past, take_all, length-set, length_push, length-append, length-replicate, Swapped, length-swap, sum_by-set, sum_by-cons, sum_by-append, count_by-le-length, position_or_len_is, cases_eq, cases_lt, eq-eqb, ne_eqb, lt-ltb, le-ltb, Entry, entry_at, no_entry, place_in, ArePlaces}
use Rattle.uv_heap.proofs.Lists.{at_push, swapped_at}

-- one, if there is a place
abbrev one : Option ℕ → ℕ
one o = cond (is_some o) 1 0

-- the place of a slot
abbrev place : List (Option ℕ) → ℕ → Option ℕ
place ps s = get_or ps s None

-- a place that is written, and another
get_or-set : (ps : List (Option ℕ)) (s t : ℕ) (v : Option ℕ) → s < length ps
    → ((t ≡ s) × (place (set ps s v) t ≡ v)) ⊎ ((t ≡ s → ⊥) × (place (set ps s v) t ≡ place ps t))
get_or-set ps s t v l = grind (arith, cases_eq, get_or-set_same, get_or-set_other)

-- how many places there are after one is written
count_by-set : (ps : List (Option ℕ)) (s : ℕ) (v w : Option ℕ) → s < length ps → place ps s ≡ w
    → count_by is_some (set ps s v) + one w ≡ count_by is_some ps + one v
count_by-set ps s v w l e = rw e at (sum_by-set one ps s v None l)

-- where a slot has no place, there are more slots than entries
pub is_free : (xs : List Entry) (ps : List (Option ℕ)) (memory s : ℕ) → ArePlaces xs ps memory → s < length ps → place ps s ≡ None
    → length xs < length ps
is_free xs ps memory s h l e =
    let more : count_by is_some (set ps s (Some 0)) + 0 ≡ count_by is_some ps + 1 = count_by-set ps s (Some 0) None l e in
    omega (arith, more, count_by-le-length is_some (set ps s (Some 0)), length-set ps s (Some 0), h.counted)

pub places_pushed : (xs : List Entry) (ps : List (Option ℕ)) (memory : ℕ) (e : Entry) → ArePlaces xs ps memory → e.slot < length ps
    → place ps e.slot ≡ None → ArePlaces (xs ++ e ∷ []) (set ps e.slot (Some (length xs))) memory
places_pushed xs ps memory e h l absent = record {
  known = λ i p. known i (at_push xs e i p);
  right = λ i p. right i (at_push xs e i p);
  only = λ s i. only s i (get_or-set ps e.slot s (Some (length xs)) l);
  counted =
      let more : count_by is_some (set ps e.slot (Some (length xs))) + 0 ≡ count_by is_some ps + 1 = count_by-set ps e.slot
      (Some (length xs)) None l absent in
      omega (arith, more, h.counted, length_push xs e);
  fits = omega (arith, length-set ps e.slot (Some (length xs)), h.fits);
  narrow = omega (arith, length-set ps e.slot (Some (length xs)), h.narrow);
} where
  known : (i : ℕ) → ((i < length xs) × (entry_at (xs ++ e ∷ []) i ≡ entry_at xs i)) ⊎ ((i ≡ length xs) × (entry_at (xs ++ e ∷ []) i ≡ e))
      → (entry_at (xs ++ e ∷ []) i).slot < length (set ps e.slot (Some (length xs)))
  known i (inl a) = omega (arith, ap (λ (x : Entry). x.slot) a.1, h.known i a.0, length-set ps e.slot (Some (length xs)))
  known i (inr a) = omega (arith, ap (λ (x : Entry). x.slot) a.1, length-set ps e.slot (Some (length xs)))

  right : (i : ℕ) → ((i < length xs) × (entry_at (xs ++ e ∷ []) i ≡ entry_at xs i)) ⊎ ((i ≡ length xs) × (entry_at (xs ++ e ∷ []) i ≡ e))
      → place (set ps e.slot (Some (length xs))) (entry_at (xs ++ e ∷ []) i).slot ≡ Some i
  right i e1 = grind (arith, get_or-set, get_or-set_same)

  only : (s i : ℕ) → ((s ≡ e.slot) × (place (set ps e.slot (Some (length xs))) s ≡ Some (length xs))) ⊎
      ((s ≡ e.slot → ⊥) × (place (set ps e.slot (Some (length xs))) s ≡ place ps s)) → place (set ps e.slot (Some (length xs))) s ≡ Some i
      → (i < length (xs ++ e ∷ [])) × ((entry_at (xs ++ e ∷ []) i).slot ≡ s)
  only s i (inl a) b = grind (arith, length_push, at_push)
  only s i (inr a) b =
      let was = h.only s i (sym a.1 ∙ b) in
      let one_more = length_push xs e in
      let there = at_push xs e i (omega arith) in
      (omega arith, at there was) where
        at : ((i < length xs) × (entry_at (xs ++ e ∷ []) i ≡ entry_at xs i)) ⊎ ((i ≡ length xs) × (entry_at (xs ++ e ∷ []) i ≡ e))
            → (i < length xs) × ((entry_at xs i).slot ≡ s) → (entry_at (xs ++ e ∷ []) i).slot ≡ s
        at e0 was = grind arith

-- the last entry goes
pub places_popped : (xs : List Entry) (ps : List (Option ℕ)) (memory : ℕ) (e : Entry) → ArePlaces (xs ++ e ∷ []) ps memory
    → ArePlaces xs (set ps e.slot None) memory
places_popped xs ps memory e h =
    let n = length_push xs e in
    let last : (entry_at (xs ++ e ∷ []) (length xs)).slot ≡ e.slot = ap (λ (x : Entry). x.slot) (get_or_push xs e no_entry (length xs) refl) in
    let there : e.slot < length ps = omega (arith, h.known (length xs) (omega arith)) in
    let placed : place ps e.slot ≡ Some (length xs) = ap (place ps) (sym last) ∙ h.right (length xs) (omega arith) in
    record {
      known = λ i p. omega (arith, same i p, h.known i (omega arith), length-set ps e.slot None);
      right = λ i p. right i p placed (ap (place ps) (same i p) ∙ h.right i (omega arith)) (get_or-set ps e.slot (entry_at xs i).slot None there);
      only = λ s i. only s i last (get_or-set ps e.slot s None there);
      counted =
          let less : count_by is_some (set ps e.slot None) + 1 ≡ count_by is_some ps + 0 = count_by-set ps e.slot None
          (Some (length xs)) there placed in
          omega (arith, less, h.counted);
      fits = omega (arith, length-set ps e.slot None, h.fits);
      narrow = omega (arith, length-set ps e.slot None, h.narrow);
    }
  where
    same : (i : ℕ) → i < length xs → (entry_at xs i).slot ≡ (entry_at (xs ++ e ∷ []) i).slot
    same i p = ap (λ (x : Entry). x.slot) (sym (get_or_append_left xs (e ∷ []) no_entry i p))

    right : (i : ℕ) → i < length xs → place ps e.slot ≡ Some (length xs) → place ps (entry_at xs i).slot ≡ Some i
        → (((entry_at xs i).slot ≡ e.slot) × (place (set ps e.slot None) (entry_at xs i).slot ≡ None)) ⊎
        (((entry_at xs i).slot ≡ e.slot → ⊥) × (place (set ps e.slot None) (entry_at xs i).slot ≡ place ps (entry_at xs i).slot))
        → place (set ps e.slot None) (entry_at xs i).slot ≡ Some i
    right i p placed was e4 = grind arith

    only : (s i : ℕ) → (entry_at (xs ++ e ∷ []) (length xs)).slot ≡ e.slot
        → ((s ≡ e.slot) × (place (set ps e.slot None) s ≡ None)) ⊎ ((s ≡ e.slot → ⊥) × (place (set ps e.slot None) s ≡ place ps s))
        → place (set ps e.slot None) s ≡ Some i → (i < length xs) × ((entry_at xs i).slot ≡ s)
    only s i last (inl a) b = let no : None ≡ Some i = sym a.1 ∙ b in cc
    only s i last (inr a) b =
        let was = h.only s i (sym a.1 ∙ b) in
        let n = length_push xs e in
        at (cases_eq i (length xs)) was (omega (arith, was.0)) where
          at : (i ≡ length xs) ⊎ (i ≡ length xs → ⊥) → (i < length (xs ++ e ∷ [])) × ((entry_at (xs ++ e ∷ []) i).slot ≡ s) → i < length xs + 1
              → (i < length xs) × ((entry_at xs i).slot ≡ s)
          at (inl is) was l = absurd (a.0 (sym was.1 ∙ ap (λ (k : ℕ). (entry_at (xs ++ e ∷ []) k).slot) is ∙ last))
          at (inr is) was l = (omega arith, same i (omega arith) ∙ was.1)

-- the places of two slots are written
abbrev both : List (Option ℕ) → ℕ → ℕ → ℕ → ℕ → List (Option ℕ)
both ps first second a b = set (set ps second (Some a)) first (Some b)

-- what a place is after that
data Written (ps : List (Option ℕ)) (first second a b t : ℕ) : Type 0 where
  at_first : t ≡ first → place (both ps first second a b) t ≡ Some b → Written ps first second a b t
  at_second : t ≡ second → place (both ps first second a b) t ≡ Some a → Written ps first second a b t
  elsewhere : (t ≡ first → ⊥) → (t ≡ second → ⊥) → place (both ps first second a b) t ≡ place ps t → Written ps first second a b t

written : (ps : List (Option ℕ)) (first second a b t : ℕ) → first < length ps → second < length ps → Written ps first second a b t
written ps first second a b t p q = grind (arith, length-set, get_or-set)

-- two entries change places
pub places_swapped : (xs : List Entry) (ps : List (Option ℕ)) (memory a b : ℕ) → a < length xs → b < length xs → ArePlaces xs ps memory
    → ArePlaces (swap xs a b) (both ps (entry_at xs a).slot (entry_at xs b).slot a b) memory
places_swapped xs ps memory a b p q h =
    let s = swapped_at xs a b p q in
    let long = length-swap xs a b in
    let known_a = h.known a p in
    let known_b = h.known b q in
    let width = length-set ps (entry_at xs b).slot (Some a) in
    let width_after = length-set (set ps (entry_at xs b).slot (Some a)) (entry_at xs a).slot (Some b) in
    record {
      known = λ i l. omega (arith, known i s (omega arith) (cases_eq i a) (cases_eq i b));
      right = λ i l. right i s (omega arith) (cases_eq i a) (cases_eq i b);
      only = λ t i e. only t i s long (written ps (entry_at xs a).slot (entry_at xs b).slot a b t known_a known_b) e;
      counted =
          let once : count_by is_some (set ps (entry_at xs b).slot (Some a)) + 1 ≡ count_by is_some ps + 1 = count_by-set ps (entry_at xs b).slot
          (Some a) (Some b) known_b (h.right b q) in
          let twice : count_by is_some (both ps (entry_at xs a).slot (entry_at xs b).slot a b) + 1 ≡ count_by is_some
          (set ps (entry_at xs b).slot (Some a)) + 1 =
          count_by-set (set ps (entry_at xs b).slot (Some a)) (entry_at xs a).slot (Some b) (Some a) (omega arith)
          (had (get_or-set ps (entry_at xs b).slot (entry_at xs a).slot (Some a) known_b)) in
          omega (arith, once, twice, h.counted);
      fits = omega (arith, h.fits);
      narrow = omega (arith, h.narrow);
    }
  where
    had : (((entry_at xs a).slot ≡ (entry_at xs b).slot) × (place (set ps (entry_at xs b).slot (Some a)) (entry_at xs a).slot ≡ Some a)) ⊎
        (((entry_at xs a).slot ≡ (entry_at xs b).slot → ⊥)
        × (place (set ps (entry_at xs b).slot (Some a)) (entry_at xs a).slot ≡ place ps (entry_at xs a).slot))
        → place (set ps (entry_at xs b).slot (Some a)) (entry_at xs a).slot ≡ Some a
    had (inl e) = e.1
    had (inr e) = e.1 ∙ h.right a p

    known : (i : ℕ) → Swapped (λ k. entry_at xs k) (λ k. entry_at (swap xs a b) k) a b → i < length xs → (i ≡ a) ⊎ (i ≡ a → ⊥) → (i ≡ b) ⊎ (i ≡ b → ⊥)
        → (entry_at (swap xs a b) i).slot < length ps
    known i s l (inl e) f = omega (arith, ap (λ (k : ℕ). (entry_at (swap xs a b) k).slot) e, ap (λ (x : Entry). x.slot) s.0, h.known b q)
    known i s l (inr e) (inl f) = omega (arith, ap (λ (k : ℕ). (entry_at (swap xs a b) k).slot) f, ap (λ (x : Entry). x.slot) s.1, h.known a p)
    known i s l (inr e) (inr f) = omega (arith, ap (λ (x : Entry). x.slot) (s.2 i e f), h.known i l)

    -- the place of the slot of the entry at j of the old array
    now_at : (i j : ℕ) → j < length xs → Some i ≡ Some i → ((j ≡ a → i ≡ b) × (j ≡ b → i ≡ a)) × ((j ≡ a → ⊥) → (j ≡ b → ⊥) → i ≡ j)
        → Written ps (entry_at xs a).slot (entry_at xs b).slot a b (entry_at xs j).slot
        → place (both ps (entry_at xs a).slot (entry_at xs b).slot a b) (entry_at xs j).slot ≡ Some i
    now_at i j l e3 r e5 = grind arith

    right : (i : ℕ) → Swapped (λ k. entry_at xs k) (λ k. entry_at (swap xs a b) k) a b → i < length xs → (i ≡ a) ⊎ (i ≡ a → ⊥) → (i ≡ b) ⊎ (i ≡ b → ⊥)
        → place (both ps (entry_at xs a).slot (entry_at xs b).slot a b) (entry_at (swap xs a b) i).slot ≡ Some i
    right i s l e3 e4 = grind (arith, written)

    only : (t i : ℕ) → Swapped (λ k. entry_at xs k) (λ k. entry_at (swap xs a b) k) a b → length (swap xs a b) ≡ length xs
        → Written ps (entry_at xs a).slot (entry_at xs b).slot a b t → place (both ps (entry_at xs a).slot (entry_at xs b).slot a b) t ≡ Some i
        → (i < length (swap xs a b)) × ((entry_at (swap xs a b) i).slot ≡ t)
    only t i s n (at_first e w) r =
        let is : i ≡ b = cc in
        (omega arith, ap (λ (x : Entry). x.slot) (ap (entry_at (swap xs a b)) is ∙ s.1) ∙ sym e)
    only t i s n (at_second e w) r =
        let is : i ≡ a = cc in
        (omega arith, ap (λ (x : Entry). x.slot) (ap (entry_at (swap xs a b)) is ∙ s.0) ∙ sym e)
    only t i s n (elsewhere e f w) r =
        let was = h.only t i (sym w ∙ r) in (grind arith)

-- what the places say is where the array has the slot
pub place_in_is : (xs : List Entry) (ps : List (Option ℕ)) (memory s : ℕ) → ArePlaces xs ps memory → place_in xs s ≡ place ps s
place_in_is xs ps memory s h = at (place ps s) refl where
  found : (n : ℕ) → position_or_len (λ (e : Entry). eqb e.slot s) xs ≡ n → place_in xs s ≡ cond (ltb n (length xs)) (Some n) None
  found n e = ap (λ (k : ℕ). cond (ltb k (length xs)) (Some k) None) e

  at : (o : Option ℕ) → place ps s ≡ o → place_in xs s ≡ o
  at None e =
      found (length xs) (position_or_len_is (λ (x : Entry). eqb x.slot s) xs (length xs) no_entry (omega arith)
      (λ k l. ne_eqb _ _ (λ g. let no : Some k ≡ None = sym (h.right k l) ∙ ap (place ps) g ∙ e in cc)) (λ l. absurd (omega arith)))
      ∙ ap (λ (b : Bool). cond b (Some (length xs)) None) (le-ltb (length xs) (length xs) (omega arith))
  at (Some i) e =
      let was = h.only s i e in
      grind (arith, position_or_len_is, ne_eqb, eq-eqb, lt-ltb)

none_there : (n k : ℕ) → place (replicate n None) k ≡ None
none_there (suc n) (suc k) = none_there n k
none_there each e1 = assumption

none_counted : (n : ℕ) → count_by is_some (replicate {A = Option ℕ} n None) ≡ 0
none_counted zero = refl
none_counted (suc n) = sum_by-cons one None (replicate n None) ∙ ap (λ k. 0 + k) (none_counted n)

-- more slots, with no place
pub places_grown : (xs : List Entry) (ps : List (Option ℕ)) (memory more n k : ℕ) → ArePlaces xs ps memory → length ps ≤ k → length ps + n ≤ more
    → length ps + n ≤ 2 ^ 32
    → ArePlaces xs (take k ps ++ replicate n None) more
places_grown xs ps memory more n k h enough fits narrow = rw (take_all k ps enough) (record {
  known = λ i l. omega (arith, h.known i l, long);
  right = λ i l. same (entry_at xs i).slot ∙ h.right i l;
  only = λ s i e. h.only s i (sym (same s) ∙ e);
  counted = omega (arith, sum_by-append one ps (replicate n None), none_counted n, h.counted);
  fits = omega (arith, long);
  narrow = omega (arith, long);
}) where
  long : length (ps ++ replicate n None) ≡ length ps + n
  long = omega (arith, length-append ps (replicate n None), length-replicate {A = Option ℕ} n None)

  at : (s : ℕ) → (s < length ps) ⊎ (length ps ≤ s) → place (ps ++ replicate n None) s ≡ place ps s
  at s e1 = grind (arith, get_or_append_left, get_or-append_right, none_there, get_or_past)

  same : (s : ℕ) → place (ps ++ replicate n None) s ≡ place ps s
  same s = at s (cases_lt s (length ps))

-- more memory
pub places_kept : (xs : List Entry) (ps : List (Option ℕ)) (memory more : ℕ) → ArePlaces xs ps memory → memory ≤ more → ArePlaces xs ps more
places_kept xs ps memory more h l = grind arith

-- a stored place is one of the array, and has the slot
pub stored_within : (xs : List Entry) (ps : List (Option ℕ)) (memory s : ℕ) (o : Option ℕ) → ArePlaces xs ps memory → o ≡ place ps s
    → IfSome o (λ i. i < length xs)
stored_within xs ps memory s None h e = tt
stored_within xs ps memory s (Some i) h e = (h.only s i (sym e)).0

pub stored_slot : (xs : List Entry) (ps : List (Option ℕ)) (memory s : ℕ) (o : Option ℕ) → ArePlaces xs ps memory → o ≡ place ps s
    → IfSome o (λ i. (entry_at xs i).slot ≡ s)
stored_slot xs ps memory s o h e = grind arith

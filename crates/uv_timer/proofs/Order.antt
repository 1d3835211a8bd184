-- The array's entries and the sorted list's are the same, so a slot's entry is found in one as in the other.
use Rattle.uv_timer.proofs.Names.{◌≡◌, ℕ, suc, ◌<◌, ◌==◌, ◌⊎◌, inl, inr, Bool, true, false, ltb, List, [], ◌∷◌, length, refl, sym, ap, ◌∙◌, subst, arith, Option, Some, None, count_by, position_or_len, fails_before_first, cases_Bool, eq-eqb, eqb-true, false≢true, ltb-false, Entry, no_entry, entry_at, place_in, SlotsDiffer, is_same, IsInOrder, without, one, count_by-cons, same_is, same_itself, if_when, if_true, if_false, cleared}

record At (x : Entry) (xs : List Entry) : Type 0 where
  pub place : ℕ
  pub within : place < length xs
  pub here : entry_at xs place ≡ x

-- an entry that is counted stands somewhere
found : (x : Entry) (xs : List Entry) → 0 < count_by (is_same x) xs → At x xs
found x [] h = absurd (omega arith)
found x (y ∷ ys) h = at (cases_Bool (is_same x y)) (found x ys) where
  at : (is_same x y ≡ true) ⊎ (is_same x y ≡ false) → (0 < count_by (is_same x) ys → At x ys) → At x (y ∷ ys)
  at (inl t) on = record { place = 0; within = omega arith; here = sym (same_is x y t) }
  at (inr t) on =
      let no : one (is_same x) y ≡ 0 = if_false _ _ _ t in
      let rest = on (omega (arith, no, h, count_by-cons (is_same x) y ys)) in
      record { place = suc rest.place; within = omega (arith, rest.within); here = rest.here }

-- each of a list is counted in an array that counts alike
record IsAmong (timers array : List Entry) : Type 0 where
  pub there : (e : Entry) → 0 < count_by (is_same e) timers → 0 < count_by (is_same e) array

among_rest : (x : Entry) (xs array : List Entry) → IsAmong (x ∷ xs) array → IsAmong xs array
among_rest x xs array h = record { there = λ e l. h.there e (omega (arith, l, count_by-cons (is_same e) x xs)) }

among_front : (x : Entry) (xs array : List Entry) → IsAmong (x ∷ xs) array → At x array
among_front x xs array h =
    let yes : one (is_same x) x ≡ 1 = if_true _ _ _ (same_itself x) in
    found x array (h.there x (omega (arith, yes, count_by-cons (is_same x) x xs)))

among : (array timers : List Entry) → IsInOrder array timers → IsAmong timers array
among array timers h = record { there = λ e l. omega (arith, l, h.same e) }

-- a slot that the array lacks, the list lacks
cleared_none : (slot : ℕ) (timers array : List Entry) → IsAmong timers array
    → ((i : ℕ) → i < length array → (entry_at array i).slot ≡ slot → ⊥) → cleared slot timers ≡ timers
cleared_none slot [] array h lacks = refl
cleared_none slot (x ∷ xs) array h lacks = if_when (λ (ys : List Entry). ys ≡ x ∷ xs) (x.slot == slot) _ _
    (λ t. let at = among_front x xs array h in absurd (lacks at.place at.within (ap (λ (e : Entry). e.slot) at.here ∙ eqb-true x.slot slot t)))
    (λ t. ap (λ (ys : List Entry). x ∷ ys) (cleared_none slot xs array (among_rest x xs array h) lacks))

-- of a slot that the array has once, the entry is the same in both
cleared_one : (slot : ℕ) (timers array : List Entry) (e : Entry) → e.slot ≡ slot → IsAmong timers array
    → ((i : ℕ) → i < length array → (entry_at array i).slot ≡ slot → entry_at array i ≡ e) → cleared slot timers ≡ without e timers
cleared_one slot [] array e same h only = refl
cleared_one slot (x ∷ xs) array e same h only = if_when (λ (ys : List Entry). ys ≡ without e (x ∷ xs)) (x.slot == slot) _ _
    (λ t.
    let at = among_front x xs array h in
    let is : x ≡ e = sym at.here ∙ only at.place at.within (ap (λ (y : Entry). y.slot) at.here ∙ eqb-true x.slot slot t) in
    sym (if_true _ _ _ (ap (λ (y : Entry). is_same e y) is ∙ same_itself e)))
    (λ t. if_when (λ (ys : List Entry). x ∷ cleared slot xs ≡ ys) (is_same e x) _ _
    (λ u. absurd (false≢true (sym t ∙ eq-eqb x.slot slot (ap (λ (y : Entry). y.slot) (sym (same_is e x u)) ∙ same))))
    (λ u. ap (λ (ys : List Entry). x ∷ ys) (cleared_one slot xs array e same (among_rest x xs array h) only)))

-- as an unhooking finds it
pub order_none : (slot : ℕ) (array timers : List Entry) → ((i : ℕ) → i < length array → (entry_at array i).slot ≡ slot → ⊥)
    → IsInOrder array timers → IsInOrder array (cleared slot timers)
order_none slot array timers lacks h =
    subst (λ (ts : List Entry). IsInOrder array ts) (sym (cleared_none slot timers array (among array timers h) lacks)) h

pub order_one : (slot : ℕ) (array new timers : List Entry) (place : ℕ) (e : Entry) → SlotsDiffer array
    → place < length array → entry_at array place ≡ e → e.slot ≡ slot
    → IsInOrder array timers → IsInOrder new (without e timers) → IsInOrder new (cleared slot timers)
order_one slot array new timers place e differ within here same h after =
    let only : (i : ℕ) → i < length array → (entry_at array i).slot ≡ slot → entry_at array i ≡ e =
    λ i l s. ap (entry_at array) (differ i place l within (s ∙ sym same ∙ ap (λ (y : Entry). y.slot) (sym here))) ∙ here in
    subst (λ (ts : List Entry). IsInOrder new ts) (sym (cleared_one slot timers array e same (among array timers h) only)) after

-- a slot without a place is not in the array
pub lacks_slot : (slot : ℕ) (array : List Entry) → place_in array slot ≡ None → (i : ℕ) → i < length array → (entry_at array i).slot ≡ slot → ⊥
lacks_slot slot array none i l s =
    let p : Entry → Bool = λ e. e.slot == slot in
    let first = position_or_len p array in
    if_when (λ (o : Option ℕ). o ≡ None → ⊥) (ltb first (length array)) (Some first) None
    (λ t n. cc)
    (λ t n. false≢true
    (sym (fails_before_first p array i no_entry (omega (arith, ltb-false first (length array) t))) ∙ eq-eqb (entry_at array i).slot slot s))
    none

-- The entries of the heap in their order, and the timers that they are: one entry less, and one more.
use Rattle.uv_stands.proofs.ProofNames.{◌≡◌, inl, inr, ℕ, ◌<◌, ◌==◌, if◌then◌else◌, cond, List, [], ◌∷◌, map, Bool, true, false, refl, ap, sym, subst, ◌∙◌, match_ordering, is_eq, is_lt, ordering_reverse, is_at, Ordering, Less, Equal, Greater, eqb-true, eq-eqb, due_cmp, Id, Due, Entry, is_before, inserted, cleared, id_in, with_timer, without_timer, due_cmp_total, another, Has, Content, timer_in}
use Rattle.uv_arena.specs.Image as arena
use Rattle.uv_stands.proofs.Keys.{key_at, key_itself}

abbrev pub entry_of : Due → ℕ → Entry
entry_of due slot = record { due = due; slot = slot }

-- an entry at the head of a list, or behind its first
abbrev put_before : Entry → Entry → List Entry → Bool → List Entry
put_before e x xs b = if b then x ∷ inserted e xs else e ∷ x ∷ xs

module _ (a : arena.Image Content) where
  -- each id there is that of its slot
  pub id_there : (xs : List Entry) (due : Due) (id : Id) → Has (map (timer_in a) xs) due id → id_in a id.slot ≡ id
  id_there [] due id h = absurd h
  id_there (x ∷ xs) due id (inl e) = subst (λ (z : Id). id_in a z.slot ≡ z) e.1 refl
  id_there (x ∷ xs) due id (inr h) = id_there xs due id h

  -- the one of a slot is the one with a key
  pub cleared_key : (xs : List Entry) (slot : ℕ) (key : Due)
      → ((due : Due) (id : Id) → Has (map (timer_in a) xs) due id → id.slot ≡ slot → due ≡ key)
      → ((due : Due) (id : Id) → Has (map (timer_in a) xs) due id → due ≡ key → id.slot ≡ slot)
      → without_timer (map (timer_in a) xs) key ≡ map (timer_in a) (cleared slot xs)
  cleared_key [] slot key f g = refl
  cleared_key (x ∷ xs) slot key f g = at (x.slot == slot) refl (is_at (due_cmp key) x.due) refl
      (cleared_key xs slot key (λ due id h. f due id (inr h)) (λ due id h. g due id (inr h))) where
        at : (b : Bool) → (x.slot == slot) ≡ b → (c : Bool) → is_at (due_cmp key) x.due ≡ c
            → without_timer (map (timer_in a) xs) key ≡ map (timer_in a) (cleared slot xs)
            → cond c (map (timer_in a) xs) (timer_in a x ∷ without_timer (map (timer_in a) xs) key)
            ≡ map (timer_in a) (if b then xs else x ∷ cleared slot xs)
        at true e true k rest = refl
        at false e false k rest = ap (λ ts. timer_in a x ∷ ts) rest
        at true e false k rest =
            let due = f x.due (id_in a x.slot) (inl (refl, refl)) (eqb-true x.slot slot e) in
            let same : is_at (due_cmp key) x.due ≡ true = key_itself key x.due (sym due) in
            cc (k, same)
        at false e true k rest =
            let own = g x.due (id_in a x.slot) (inl (refl, refl)) (sym (key_at key x.due k)) in
            let same : (x.slot == slot) ≡ true = eq-eqb x.slot slot own in
            cc (e, same)

  -- a slot of which there is none
  pub cleared_none : (xs : List Entry) (slot : ℕ) → ((due : Due) (id : Id) → Has (map (timer_in a) xs) due id → id.slot ≡ slot → ⊥)
      → cleared slot xs ≡ xs
  cleared_none [] slot f = refl
  cleared_none (x ∷ xs) slot f = at (x.slot == slot) refl (cleared_none xs slot (λ due id h. f due id (inr h))) where
    at : (b : Bool) → (x.slot == slot) ≡ b → cleared slot xs ≡ xs → (if b then xs else x ∷ cleared slot xs) ≡ x ∷ xs
    at true e rest = absurd (f x.due (id_in a x.slot) (inl (refl, refl)) (eqb-true x.slot slot e))
    at false e rest = ap (λ ys. x ∷ ys) rest

  -- the first is the slot's
  pub cleared_first : (x : Entry) (xs : List Entry) (slot : ℕ) → x.slot ≡ slot → cleared slot (x ∷ xs) ≡ xs
  cleared_first x xs slot e = ap (λ (b : Bool). if b then xs else x ∷ cleared slot xs) (eq-eqb x.slot slot e)

  -- one more, whose start number was yet to be drawn
  pub inserted_as : (xs : List Entry) (slot : ℕ) (key : Due) → ((due : Due) (id : Id) → Has (map (timer_in a) xs) due id → due.start < key.start)
      → with_timer (map (timer_in a) xs) key (id_in a slot) ≡ map (timer_in a) (inserted (entry_of key slot) xs)
  inserted_as [] slot key f = refl
  inserted_as (x ∷ xs) slot key f = at (due_cmp key x.due) refl (inserted_as xs slot key (λ due id h. f due id (inr h))) where
    before : (o : Ordering) → due_cmp key x.due ≡ o → is_before x (entry_of key slot) ≡ is_lt (ordering_reverse o)
    before o e = ap is_lt (due_cmp_total.antisymm x.due key ∙ ap ordering_reverse e)

    at : (o : Ordering) → due_cmp key x.due ≡ o
        → with_timer (map (timer_in a) xs) key (id_in a slot) ≡ map (timer_in a) (inserted (entry_of key slot) xs)
        → match_ordering o ((key, id_in a slot) ∷ timer_in a x ∷ map (timer_in a) xs) ((x.due, id_in a slot) ∷ map (timer_in a) xs)
        (timer_in a x ∷ with_timer (map (timer_in a) xs) key (id_in a slot))
        ≡ map (timer_in a) (put_before (entry_of key slot) x xs (is_before x (entry_of key slot)))
    at Less e rest = ap (λ (b : Bool). map (timer_in a) (put_before (entry_of key slot) x xs b)) (sym (before Less e))
    at Equal e rest =
        let apart = another x.due key (f x.due (id_in a x.slot) (inl (refl, refl))) in
        let tied : is_eq (due_cmp x.due key) ≡ true = ap is_eq (due_cmp_total.antisymm x.due key ∙ ap ordering_reverse e) in
        cc (apart, tied)
    at Greater e rest =
        ap (λ ts. timer_in a x ∷ ts) rest
        ∙ ap (λ (b : Bool). map (timer_in a) (put_before (entry_of key slot) x xs b)) (sym (before Greater e))

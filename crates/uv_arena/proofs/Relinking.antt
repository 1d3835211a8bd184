-- Relinking one place: what it does to segments, and that it can be undone.
use Rattle.uv_arena.proofs.ProofNames.{◌≡◌, ◌≢◌, ℕ, ◌⊎◌, Bool, true, false, cond, eqb, eq-eqb, List, [], ◌∷◌, slice_get, Option, Some, None, refl, sym, ap, ◌∙◌, subst, inl, inr, eqb_tells, Links, Ends, ChainPlace, Chains, link, each, is_at, first, last, IsIn, IsApart, IsSegment, new_links, none_or, new_ends, relinked}
use Rattle.uv_arena.proofs.Each.{get-each, each-each, each-agree, each-same}
use Rattle.uv_arena.proofs.Lists.{last_in}

pub at_yes : (o : Option ℕ) (y : ℕ) → o ≡ Some y → is_at o y ≡ true
at_yes None y e = cc
at_yes (Some i) y e = let same : i ≡ y = cc in eq-eqb i y same

pub at_no : (o : Option ℕ) (y : ℕ) → (o ≡ Some y → ⊥) → is_at o y ≡ false
at_no None y n = refl
at_no (Some i) y n = elim (eqb_tells i y) [ inl h ↦ absurd (n (ap Some h.1)) | inr h ↦ h.0 ]

pub at_either : (o : Option ℕ) (y : ℕ) → ((is_at o y ≡ true) × (o ≡ Some y)) ⊎ ((is_at o y ≡ false) × (o ≡ Some y → ⊥))
at_either None y = inr (refl, λ e. cc)
at_either (Some i) y = elim (eqb_tells i y) [ inl h ↦ inl (h.0, ap Some h.1) | inr h ↦ inr (h.0, λ e. let same : i ≡ y = cc in h.1 same) ]

pub eqb_no : (i j : ℕ) → i ≢ j → eqb i j ≡ false
eqb_no i j n = elim (eqb_tells i j) [ inl h ↦ absurd (n h.1) | inr h ↦ h.0 ]

module _ (t : ChainPlace) (a b : Option ℕ) (l : Links) where
  pub new_links_as : (y : ℕ) (m : Links) (u v w : Bool) → eqb t.slot y ≡ u → is_at t.before y ≡ v → is_at t.after y ≡ w
      → new_links t a b l y m ≡ cond u l (record { list = m.list; prev = cond w b m.prev; next = cond v a m.next })
  new_links_as y m u v w e f g = λ i. cond (e i) l (record { list = m.list; prev = cond (g i) b m.prev; next = cond (f i) a m.next })

  pub own_links : (m : Links) → new_links t a b l t.slot m ≡ l
  own_links m = new_links_as t.slot m true (is_at t.before t.slot) (is_at t.after t.slot) (eq-eqb t.slot t.slot refl) refl refl

  abbrev pub IsFar : ℕ → Type 0
  IsFar y = (t.slot ≢ y) × (t.before ≡ Some y → ⊥) × (t.after ≡ Some y → ⊥)

  pub untouched : (y : ℕ) (m : Links) → IsFar y → new_links t a b l y m ≡ m
  untouched y m far = new_links_as y m false false false (eqb_no t.slot y far.0) (at_no t.before y far.1) (at_no t.after y far.2)

  pub same_list : (y : ℕ) (m : Links) → t.slot ≢ y → (new_links t a b l y m).list ≡ m.list
  same_list y m n = ap (λ (z : Links). z.list) (new_links_as y m false (is_at t.before y) (is_at t.after y) (eqb_no t.slot y n) refl refl)

  module _ (ls : List Links) (k : ℕ) where
    abbrev after : List Links
    after = each (new_links t a b l) ls

    pub frame : (p : Option ℕ) (xs : List ℕ) (n : Option ℕ) → ((y : ℕ) → IsIn y xs → IsFar y) → IsSegment ls k p xs n
        → IsSegment (each (new_links t a b l) ls) k p xs n
    frame p [] n far h = tt
    frame p (x ∷ xs) n far h = (
      get-each (new_links t a b l) ls x (link k p (first xs n)) h.0
          ∙ ap Some (untouched x (link k p (first xs n)) (far x (inl refl))),
      frame (Some x) xs n (λ y i. far y (inr i)) h.1,
    )

    pub before_kept : (p : Option ℕ) (xs : List ℕ) (n : Option ℕ) → last p xs ≡ t.before → IsApart xs → (IsIn t.slot xs → ⊥)
        → ((y : ℕ) → IsIn y xs → t.after ≡ Some y → ⊥)
        → IsSegment ls k p xs n → IsSegment (each (new_links t a b l) ls) k p xs a
    before_kept p [] n is apart own past h = tt
    before_kept p (x ∷ []) n is apart own past h =
        let other : t.slot ≢ x = λ e. own (inl e) in (
          get-each (new_links t a b l) ls x (link k p n) h.0
              ∙ ap Some (new_links_as x (link k p n) false true false (eqb_no t.slot x other) (at_yes t.before x (sym is))
              (at_no t.after x (past x (inl refl)))),
          tt,
        )
    before_kept p (x ∷ y ∷ ys) n is apart own past h =
        let other : t.slot ≢ x = λ e. own (inl e) in
        let end = last_in y ys (Some x) in
        let not_last : t.before ≡ Some x → ⊥ = λ e. let same : end.0 ≡ x = cc in apart.0 (subst (λ z. IsIn z (y ∷ ys)) same end.2) in (
          get-each (new_links t a b l) ls x (link k p (Some y)) h.0 ∙ ap Some (untouched x (link k p (Some y)) (other, not_last, past x (inl refl))),
          before_kept (Some x) (y ∷ ys) n is apart.1 (λ r. own (inr r)) (λ z i. past z (inr i)) h.1,
        )

    pub after_kept : (p : Option ℕ) (xs : List ℕ) → first xs None ≡ t.after → IsApart xs → (IsIn t.slot xs → ⊥)
        → ((y : ℕ) → IsIn y xs → t.before ≡ Some y → ⊥)
        → IsSegment ls k p xs None → IsSegment (each (new_links t a b l) ls) k b xs None
    after_kept p [] is apart own past h = tt
    after_kept p (x ∷ xs) is apart own past h =
        let other : t.slot ≢ x = λ e. own (inl e) in (
          get-each (new_links t a b l) ls x (link k p (first xs None)) h.0
              ∙ ap Some (new_links_as x (link k p (first xs None)) false false true (eqb_no t.slot x other) (at_no t.before x (past x (inl refl)))
              (at_yes t.after x (sym is))),
          frame (Some x) xs None (λ y i. (
            λ e. own (inr (subst (λ z. IsIn z xs) (sym e) i)),
            past y (inr i),
            λ e. let same : y ≡ x = cc in
                apart.0 (subst (λ z. IsIn z xs) same i),
          )) h.1,
        )

-- a second relinking of a place overwrites the first
module _ (t : ChainPlace) (a b a' b' : Option ℕ) (l l' : Links) where
  once : (u v w : Bool) (m : Links) → let r : Links = cond u l (record { list = m.list; prev = cond w b m.prev; next = cond v a m.next }) in
      cond u l' (record { list = r.list; prev = cond w b' r.prev; next = cond v a' r.next })
      ≡ cond u l' (record { list = m.list; prev = cond w b' m.prev; next = cond v a' m.next })
  once true v w m = refl
  once false true true m = refl
  once false true false m = refl
  once false false true m = refl
  once false false false m = refl

  head_once : (o x y old : Option ℕ) → none_or o y (none_or o x old) ≡ none_or o y old
  head_once None x y old = refl
  head_once (Some i) x y old = refl

  ends_once : (u : Bool) (e : Ends) → let r : Ends = cond u (record { head = none_or t.before a e.head; tail = none_or t.after b e.tail }) e in
      cond u (record { head = none_or t.before a' r.head; tail = none_or t.after b' r.tail }) r
      ≡ cond u (record { head = none_or t.before a' e.head; tail = none_or t.after b' e.tail }) e
  ends_once true e = λ i. record { head = head_once t.before a a' e.head i; tail = head_once t.after b b' e.tail i }
  ends_once false e = refl

  pub relinked_twice : (c : Chains) → relinked t a' b' l' (relinked t a b l c) ≡ relinked t a' b' l' c
  relinked_twice c =
      let one = each-each (new_links t a b l) (new_links t a' b' l') c.links
      ∙ each-agree (λ j m. new_links t a' b' l' j (new_links t a b l j m)) (new_links t a' b' l') c.links
      (λ j m e. once (eqb t.slot j) (is_at t.before j) (is_at t.after j) m) in
      let two = each-each (new_ends t a b) (new_ends t a' b') c.ends
      ∙ each-agree (λ j m. new_ends t a' b' j (new_ends t a b j m)) (new_ends t a' b') c.ends (λ j m e. ends_once (eqb t.list j) m) in
      λ i. record { links = one i; ends = two i }

-- a relinking that puts in what is there changes nothing
pub record IsThere (t : ChainPlace) (a b : Option ℕ) (l : Links) (c : Chains) : Type 0 where
  pub own : (m : Links) → slice_get c.links t.slot ≡ Some m → m ≡ l
  pub next : (i : ℕ) (m : Links) → t.before ≡ Some i → slice_get c.links i ≡ Some m → m.next ≡ a
  pub prev : (i : ℕ) (m : Links) → t.after ≡ Some i → slice_get c.links i ≡ Some m → m.prev ≡ b
  pub head : (e : Ends) → t.before ≡ None → slice_get c.ends t.list ≡ Some e → e.head ≡ a
  pub tail : (e : Ends) → t.after ≡ None → slice_get c.ends t.list ≡ Some e → e.tail ≡ b

kept_or : (o a old : Option ℕ) → (o ≡ None → old ≡ a) → none_or o a old ≡ old
kept_or None a old h = sym (h refl)
kept_or (Some i) a old h = refl

module _ (t : ChainPlace) (a b : Option ℕ) (l : Links) (c : Chains) (h : IsThere t a b l c) where
  same_links : (j : ℕ) (m : Links) → slice_get c.links j ≡ Some m → new_links t a b l j m ≡ m
  same_links j m e =
      elim (eqb_tells t.slot j) [
        | inl y ↦ new_links_as t a b l j m true (is_at t.before j) (is_at t.after j) y.0 refl refl ∙ sym (h.own m (ap (slice_get c.links) y.1 ∙ e))
        | inr n ↦
            let next : (v : Bool) × (is_at t.before j ≡ v) × (cond v a m.next ≡ m.next) =
            elim (at_either t.before j) [ inl y ↦ (true, y.0, sym (h.next j m y.1 e)) | inr z ↦ (false, z.0, refl) ] in
            let prev : (w : Bool) × (is_at t.after j ≡ w) × (cond w b m.prev ≡ m.prev) =
            elim (at_either t.after j) [ inl y ↦ (true, y.0, sym (h.prev j m y.1 e)) | inr z ↦ (false, z.0, refl) ] in
            new_links_as t a b l j m false next.0 prev.0 n.0 next.1 prev.1 ∙ (λ i. record { list = m.list; prev = prev.2 i; next = next.2 i })
      ]

  same_ends : (j : ℕ) (e : Ends) → slice_get c.ends j ≡ Some e → new_ends t a b j e ≡ e
  same_ends j e g =
      elim (eqb_tells t.list j) [
        | inl y ↦ ap (λ (u : Bool). cond u (record { head = none_or t.before a e.head; tail = none_or t.after b e.tail }) e) y.0
            ∙ (λ i. record {
              head = kept_or t.before a e.head (λ z. h.head e z (ap (slice_get c.ends) y.1 ∙ g)) i;
              tail =
                  kept_or t.after b e.tail (λ z. h.tail e z (ap (slice_get c.ends) y.1 ∙ g)) i;
            })
        | inr n ↦ ap (λ (u : Bool). cond u (record { head = none_or t.before a e.head; tail = none_or t.after b e.tail }) e) n.0
      ]

  pub relinked_same : relinked t a b l c ≡ c
  relinked_same =
      let one = each-same (new_links t a b l) c.links same_links in let two = each-same (new_ends t a b) c.ends same_ends in
      λ i. record { links = one i; ends = two i }

-- so what puts back what was there undoes the first
pub undone : (t : ChainPlace) (a b a' b' : Option ℕ) (l l' : Links) (c : Chains) → IsThere t a' b' l' c → relinked t a' b' l' (relinked t a b l c) ≡ c
undone t a b a' b' l l' c h = relinked_twice t a b a' b' l l' c ∙ relinked_same t a' b' l' c h

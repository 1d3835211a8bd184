-- The lists before and after a relinking.
use Rattle.uv_arena.proofs.ProofNames.{◌≡◌, ◌≢◌, ℕ, ◌<◌, ◌⊎◌, Bool, cond, eqb, eq-eqb, List, slice_get, Option, Some, None, refl, sym, ap, ◌∙◌, subst, inl, inr, eqb_tells, CHAIN_COUNT, Links, Ends, ChainPlace, Chains, loose, each, IsIn, IsList, Stands, ends_of, new_links, none_or, new_ends, relinked}
use Rattle.uv_arena.proofs.Each.{get-each, get-each_back}
use Rattle.uv_arena.proofs.Lists.{segment_tells}
use Rattle.uv_arena.proofs.Relinking.{eqb_no, own_links, IsFar, untouched, same_list, frame}

pub ends_kept : (t : ChainPlace) (a b : Option ℕ) (c : Chains) (j : ℕ) (e : Ends) → t.list ≢ j → slice_get c.ends j ≡ Some e
    → slice_get (each (new_ends t a b) c.ends) j ≡ Some e
ends_kept t a b c j e n g = get-each (new_ends t a b) c.ends j e g
    ∙ ap (λ (u : Bool). Some (cond u (record { head = none_or t.before a e.head; tail = none_or t.after b e.tail }) e)) (eqb_no t.list j n)

pub ends_put : (t : ChainPlace) (a b : Option ℕ) (c : Chains) (e : Ends) → slice_get c.ends t.list ≡ Some e
    → slice_get (each (new_ends t a b) c.ends) t.list ≡ Some (record { head = none_or t.before a e.head; tail = none_or t.after b e.tail })
ends_put t a b c e g = get-each (new_ends t a b) c.ends t.list e g
    ∙ ap (λ (u : Bool). Some (cond u (record { head = none_or t.before a e.head; tail = none_or t.after b e.tail }) e)) (eq-eqb t.list t.list refl)

-- the lists, except list k, which is new
abbrev pub with_list : ℕ → List ℕ → (ℕ → List ℕ) → ℕ → List ℕ
with_list k new xs j = cond (eqb k j) new (xs j)

-- what a relinking has to meet
pub record IsRelinked (c : Chains) (xs : ℕ → List ℕ) (t : ChainPlace) (a b : Option ℕ) (l : Links) (new : List ℕ) : Type 0 where
  pub below : t.list < CHAIN_COUNT
  pub made : IsList (relinked t a b l c) t.list new
  pub slot : (m : Links) → slice_get c.links t.slot ≡ Some m → (m.list ≡ None) ⊎ (m.list ≡ Some t.list)
  pub before : (y : ℕ) → t.before ≡ Some y → IsIn y (xs t.list)
  pub after : (y : ℕ) → t.after ≡ Some y → IsIn y (xs t.list)
  pub own : (j : ℕ) → l.list ≡ Some j → (j ≡ t.list) × IsIn t.slot new
  pub bare : l.list ≡ None → l ≡ loose
  pub kept : (y : ℕ) → t.slot ≢ y → IsIn y (xs t.list) → IsIn y new

module _ (c : Chains) (xs : ℕ → List ℕ) (s : Stands c xs) (t : ChainPlace) (a b : Option ℕ) (l : Links) (new : List ℕ)
    (r : IsRelinked c xs t a b l new) where
  here : (y : ℕ) → IsIn y (xs t.list) → (m : Links) → slice_get c.links y ≡ Some m → m.list ≡ Some t.list
  here y i m g = let on = segment_tells c.links t.list None (xs t.list) None (s.lists t.list r.below).segment y i in
      let same : on.0 ≡ m = cc (on.1, g) in ap (λ (z : Links). z.list) (sym same) ∙ on.2

  far_from : (j : ℕ) → t.list ≢ j → (y : ℕ) (m : Links) → slice_get c.links y ≡ Some m → m.list ≡ Some j → IsFar t a b l y
  far_from j n y m g is =
      let off : m.list ≡ Some t.list → ⊥ = λ e. let same : t.list ≡ j = cc (e, is) in n same in (
        λ e. elim (r.slot m (ap (slice_get c.links) e ∙ g)) [ inl h ↦ cc (h, is) | inr h ↦ off h ],
        λ e. off (here y (r.before y e) m g),
        λ e. off (here y (r.after y e) m g),
      )

  bare_far : (y : ℕ) (m : Links) → slice_get c.links y ≡ Some m → m.list ≡ None → t.slot ≢ y → IsFar t a b l y
  bare_far y m g is n = (n, λ e. cc (here y (r.before y e) m g, is), λ e. cc (here y (r.after y e) m g, is))

  other_list : (j : ℕ) → j < CHAIN_COUNT → t.list ≢ j → IsList (relinked t a b l c) j (xs j)
  other_list j lt n = let old = s.lists j lt in record {
    segment = frame t a b l c.links j None (xs j) None (λ y i. let on = segment_tells c.links j None (xs j) None old.segment y i in
        far_from j n y on.0 on.1 on.2) old.segment;
    apart = old.apart;
    ends = ends_kept t a b c j (ends_of (xs j)) n old.ends;
  }

  all_lists : (j : ℕ) → j < CHAIN_COUNT → IsList (relinked t a b l c) j (with_list t.list new xs j)
  all_lists j lt = elim (eqb_tells t.list j) [
    | inl y ↦ subst (λ (u : Bool). IsList (relinked t a b l c) j (cond u new (xs j))) (sym y.0)
        (subst (λ (i : ℕ). IsList (relinked t a b l c) i new) y.1 r.made)
    | inr n ↦ subst (λ (u : Bool). IsList (relinked t a b l c) j (cond u new (xs j))) (sym n.0) (other_list j lt n.1)
  ]

  all_listed : (y : ℕ) (m : Links) (k : ℕ) → slice_get (relinked t a b l c).links y ≡ Some m → m.list ≡ Some k
      → (k < CHAIN_COUNT) × IsIn y (with_list t.list new xs k)
  all_listed y m k g is =
      let back = get-each_back (new_links t a b l) c.links y m g in
      elim (eqb_tells t.slot y) [
        | inl e ↦ let put : m ≡ l = back.2 ∙ ap (λ z. new_links t a b l z back.0) (sym e.1) ∙ own_links t a b l back.0 in
            let on = r.own k (ap (λ (z : Links). z.list) (sym put) ∙ is) in (
              subst (λ i. i < CHAIN_COUNT) (sym on.0) r.below,
              subst (λ (u : Bool). IsIn y (cond u new (xs k))) (sym (eq-eqb t.list k (sym on.0))) (subst (λ z. IsIn z new) e.1 on.1),
            )
        | inr n ↦ let was : back.0.list ≡ Some k = sym (same_list t a b l y back.0 n.1) ∙ ap (λ (z : Links). z.list) (sym back.2) ∙ is in
            let on = s.listed y back.0 k back.1 was in (
              on.0,
              elim (eqb_tells t.list k) [
                | inl e ↦ subst (λ (u : Bool). IsIn y (cond u new (xs k))) (sym e.0) (r.kept y n.1 (subst (λ i. IsIn y (xs i)) (sym e.1) on.1))
                | inr o ↦ subst (λ (u : Bool). IsIn y (cond u new (xs k))) (sym o.0) on.1
              ],
            )
      ]

  all_rest : (y : ℕ) (m : Links) → slice_get (relinked t a b l c).links y ≡ Some m → m.list ≡ None → m ≡ loose
  all_rest y m g is =
      let back = get-each_back (new_links t a b l) c.links y m g in
      elim (eqb_tells t.slot y) [
        | inl e ↦ let put : m ≡ l = back.2 ∙ ap (λ z. new_links t a b l z back.0) (sym e.1) ∙ own_links t a b l back.0 in put
            ∙ r.bare (ap (λ (z : Links). z.list) (sym put) ∙ is)
        | inr n ↦ let was : back.0.list ≡ None = sym (same_list t a b l y back.0 n.1) ∙ ap (λ (z : Links). z.list) (sym back.2) ∙ is in
            back.2 ∙ untouched t a b l y back.0 (bare_far y back.0 back.1 was n.1) ∙ s.rest y back.0 back.1 was
      ]

  pub relinked_stands : Stands (relinked t a b l c) (with_list t.list new xs)
  relinked_stands = record { lists = all_lists; listed = all_listed; rest = all_rest }

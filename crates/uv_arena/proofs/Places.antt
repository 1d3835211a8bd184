-- A slot is put in a place of a list, or taken out of it; and each undoes the other.
use Rattle.uv_arena.proofs.ProofNames.{◌≡◌, ℕ, ◌<◌, List, [], ◌∷◌, ◌++◌, slice_get, Option, Some, None, refl, sym, ap, ◌∙◌, subst, inl, inr, CHAIN_COUNT, Links, Ends, ChainPlace, Chains, link, loose, first, last, IsIn, IsSegment, IsList, Stands, ends_of, none_or, linked, unlinked, new_links}
use Rattle.uv_arena.proofs.Each.{get-each}
use Rattle.uv_arena.proofs.Lists.{in_left, in_right, in_either, last_in, last_is_in, first_is_in, apart_left, apart_right, apart_across, apart_join, last_append, segment_left, segment_right, segment_join, segment_tells}
use Rattle.uv_arena.proofs.Relinking.{own_links, before_kept, after_kept, IsThere, undone}
use Rattle.uv_arena.proofs.Stand.{ends_put, with_list, IsRelinked, relinked_stands}

segment_end : (ls : List Links) (k : ℕ) (p : Option ℕ) (xs : List ℕ) (n : Option ℕ) → IsSegment ls k p xs n → (i : ℕ) (m : Links)
    → last None xs ≡ Some i → slice_get ls i ≡ Some m → m.next ≡ n
segment_end ls k p (x ∷ y ∷ ys) n h i m e g = segment_end ls k (Some x) (y ∷ ys) n h.1 i m e g
segment_end ls k p each n h i m e g = search (sym)

segment_start : (ls : List Links) (k : ℕ) (p : Option ℕ) (xs : List ℕ) (n : Option ℕ) → IsSegment ls k p xs n → (i : ℕ) (m : Links)
    → first xs None ≡ Some i → slice_get ls i ≡ Some m → m.prev ≡ p
segment_start ls k p [] n h i m e g = cc
segment_start ls k p (x ∷ xs) n h i m e g = cc

-- where a place is: list k is us and then vs
abbrev pub between : ℕ → List ℕ → ℕ → List ℕ → ChainPlace
between k us x vs = record { list = k; before = last None us; slot = x; after = first vs None }

-- the ends of a list
head_with : (us vs : List ℕ) (x : ℕ) → none_or (last None us) (Some x) (first (us ++ vs) None) ≡ first (us ++ x ∷ vs) None
head_with [] vs x = refl
head_with (u ∷ us) vs x = let on = last_in u us None in ap (λ o. none_or o (Some x) (Some u)) on.1

tail_with : (us vs : List ℕ) (x : ℕ) → none_or (first vs None) (Some x) (last None (us ++ vs)) ≡ last None (us ++ x ∷ vs)
tail_with us [] x = sym (last_append us (x ∷ []) None)
tail_with us (v ∷ vs) x = last_append us (v ∷ vs) None ∙ sym (last_append us (x ∷ v ∷ vs) None)

head_without : (us vs : List ℕ) (x : ℕ) → none_or (last None us) (first vs None) (first (us ++ x ∷ vs) None) ≡ first (us ++ vs) None
head_without [] vs x = refl
head_without (u ∷ us) vs x = let on = last_in u us None in ap (λ o. none_or o (first vs None) (Some u)) on.1

tail_without : (us vs : List ℕ) (x : ℕ) → none_or (first vs None) (last None us) (last None (us ++ x ∷ vs)) ≡ last None (us ++ vs)
tail_without us [] x = sym (last_append us [] None)
tail_without us (v ∷ vs) x = last_append us (x ∷ v ∷ vs) None ∙ sym (last_append us (v ∷ vs) None)

ends_at : (h t : Option ℕ) (xs : List ℕ) → h ≡ first xs None → t ≡ last None xs → (let e : Ends = record { head = h; tail = t } in e ≡ ends_of xs)
ends_at h t xs e f = λ i. record { head = e i; tail = f i }

head_bare : (us vs : List ℕ) → last None us ≡ None → first (us ++ vs) None ≡ first vs None
head_bare [] vs e = refl
head_bare (u ∷ us) vs e = let on = last_in u us None in cc (on.1, e)

tail_bare : (us vs : List ℕ) → first vs None ≡ None → last None (us ++ vs) ≡ last None us
tail_bare us [] e = last_append us [] None
tail_bare us (v ∷ vs) e = cc

tail_own : (us vs : List ℕ) (x : ℕ) → first vs None ≡ None → last None (us ++ x ∷ vs) ≡ Some x
tail_own us [] x e = last_append us (x ∷ []) None
tail_own us (v ∷ vs) x e = cc

module _ (c : Chains) (xs : ℕ → List ℕ) (s : Stands c xs) (k x : ℕ) (us vs : List ℕ) (lt : k < CHAIN_COUNT) where
  -- x, on no list, is put between us and vs
  pub link_stands : xs k ≡ us ++ vs → slice_get c.links x ≡ Some loose
      → Stands (linked (between k us x vs) c) (with_list k (us ++ x ∷ vs) xs) × (unlinked (between k us x vs) (linked (between k us x vs) c) ≡ c)
  link_stands is bare =
      let t : ChainPlace = between k us x vs in
      let old : IsList c k (us ++ vs) = subst (IsList c k) is (s.lists k lt) in
      let out : IsIn x (us ++ vs) → ⊥ = λ i. let on = segment_tells c.links k None (us ++ vs) None old.segment x i in
      let same : on.0 ≡ loose = cc (on.1, bare) in cc (ap (λ (z : Links). z.list) same, on.2) in
      let apart_u = apart_left us vs old.apart in let apart_v = apart_right us vs old.apart in let across = apart_across us vs old.apart in
      let b = last None us in let n = first vs None in let l : Links = link k b n in let X : Option ℕ = Some x in
      let left = before_kept t X X l c.links k None us n refl apart_u (λ i. out (in_left x us vs i)) (λ y i e. across y i (first_is_in vs y e))
      (segment_left c.links k None us vs None old.segment) in
      let right = after_kept t X X l c.links k b vs refl apart_v (λ i. out (in_right x us vs i)) (λ y i e. across y (last_is_in us y e) i)
      (segment_right c.links k None us vs None old.segment) in
      let own = get-each (new_links t X X l) c.links x loose bare ∙ ap Some (own_links t X X l loose) in
      let made : IsList (linked t c) k (us ++ x ∷ vs) = record {
        segment = segment_join (linked t c).links k None us (x ∷ vs) None left (own, right);
        apart = apart_join us (x ∷ vs) apart_u (
          λ i. out (in_right x us vs i),
          apart_v,
        ) (λ y i r. elim r [ inl e ↦ out (in_left x us vs (subst (λ z. IsIn z us) e i)) | inr q ↦ across y i q ]);
        ends = ends_put t X X c (ends_of (us ++ vs)) old.ends
            ∙ ap Some (ends_at (none_or b X (first (us ++ vs) None)) (none_or n X (last None (us ++ vs))) (us ++ x ∷ vs) (head_with us vs x)
            (tail_with us vs x));
      } in
      let r : IsRelinked c xs t X X l (us ++ x ∷ vs) = record {
        below = lt;
        made = made;
        slot = λ m g. inl (let same : m ≡ loose = cc (g, bare) in ap (λ (z : Links). z.list) same);
        before = λ y e. subst (IsIn y) (sym is) (in_left y us vs (last_is_in us y e));
        after = λ y e. subst (IsIn y) (sym is) (in_right y us vs (first_is_in vs y e));
        own = λ j e. (cc, in_right x us (x ∷ vs) (inl refl));
        bare = λ e. cc;
        kept = λ y ne i. elim (in_either y us vs (subst (IsIn y) is i)) [ inl p ↦ in_left y us (x ∷ vs) p | inr q ↦ in_right y us (x ∷ vs) (inr q) ];
      } in
      let there : IsThere t n b loose c = record {
        own = λ m g. cc (g, bare);
        next = λ i m e g. segment_end c.links k None us n (segment_left c.links k None us vs None old.segment) i m e g;
        prev = λ i m e g. segment_start c.links k b vs None (segment_right c.links k None us vs None old.segment) i m e g;
        head = λ e z g. let is : e ≡ ends_of (us ++ vs) = cc (g, old.ends) in ap (λ (z : Ends). z.head) is ∙ head_bare us vs z;
        tail = λ e z g. let is : e ≡ ends_of (us ++ vs) = cc (g, old.ends) in ap (λ (z : Ends). z.tail) is ∙ tail_bare us vs z;
      } in
      (relinked_stands c xs s t X X l (us ++ x ∷ vs) r, undone t X X n b l loose c there)

  -- x is taken out from between us and vs
  pub unlink_stands : xs k ≡ us ++ x ∷ vs → Stands (unlinked (between k us x vs) c) (with_list k (us ++ vs) xs)
      × (linked (between k us x vs) (unlinked (between k us x vs) c) ≡ c)
  unlink_stands is =
      let t : ChainPlace = between k us x vs in
      let old : IsList c k (us ++ x ∷ vs) = subst (IsList c k) is (s.lists k lt) in
      let apart_u = apart_left us (x ∷ vs) old.apart in let apart_w = apart_right us (x ∷ vs) old.apart in
      let across = apart_across us (x ∷ vs) old.apart in
      let b = last None us in let n = first vs None in let X : Option ℕ = Some x in
      let seg_u = segment_left c.links k None us (x ∷ vs) None old.segment in let seg_w = segment_right c.links k None us (x ∷ vs) None old.segment in
      let left = before_kept t n b loose c.links k None us X refl apart_u (λ i. across x i (inl refl))
      (λ y i e. across y i (inr (first_is_in vs y e))) seg_u in
      let right = after_kept t n b loose c.links k X vs refl apart_w.1 apart_w.0 (λ y i e. across y (last_is_in us y e) (inr i)) seg_w.1 in
      let made : IsList (unlinked t c) k (us ++ vs) = record {
        segment = segment_join (unlinked t c).links k None us vs None left right;
        apart = apart_join us vs apart_u apart_w.1 (λ y i r. across y i (inr r));
        ends = ends_put t n b c (ends_of (us ++ x ∷ vs)) old.ends
            ∙ ap Some (ends_at (none_or b n (first (us ++ x ∷ vs) None)) (none_or n b (last None (us ++ x ∷ vs))) (us ++ vs)
            (head_without us vs x) (tail_without us vs x));
      } in
      let r : IsRelinked c xs t n b loose (us ++ vs) = record {
        below = lt;
        made = made;
        slot = λ m g. inr (let same : m ≡ link k b n = cc (g, seg_w.0) in ap (λ (z : Links). z.list) same);
        before = λ y e. subst (IsIn y) (sym is) (in_left y us (x ∷ vs) (last_is_in us y e));
        after = λ y e. subst (IsIn y) (sym is) (in_right y us (x ∷ vs) (inr (first_is_in vs y e)));
        own = λ j e. cc;
        bare = λ e. refl;
        kept = λ y ne i. elim (in_either y us (x ∷ vs) (subst (IsIn y) is i)) [
          | inl p ↦ in_left y us vs p
          | inr q ↦ elim q [ inl e ↦ absurd (ne (sym e)) | inr z ↦ in_right y us vs z ]
        ];
      } in
      let there : IsThere t X X (link k b n) c = record {
        own = λ m g. cc (g, seg_w.0);
        next = λ i m e g. segment_end c.links k None us X seg_u i m e g;
        prev = λ i m e g. segment_start c.links k X vs None seg_w.1 i m e g;
        head = λ e z g. let is : e ≡ ends_of (us ++ x ∷ vs) = cc (g, old.ends) in ap (λ (z : Ends). z.head) is ∙ head_bare us (x ∷ vs) z;
        tail = λ e z g. let is : e ≡ ends_of (us ++ x ∷ vs) = cc (g, old.ends) in ap (λ (z : Ends). z.tail) is ∙ tail_own us vs x z;
      } in
      (relinked_stands c xs s t n b loose (us ++ vs) r, undone t n b X X loose (link k b n) c there)

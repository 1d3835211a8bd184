-- The memory before and after a slot is put in a place, taken out of it, or written.
use Rattle.uv_arena.proofs.ProofNames.{◌≡◌, ◌≢◌, ℕ, zero, suc, ◌<◌, ◌≤◌, ◌⊎◌, Bool, true, false, cond, eqb, eq-eqb, List, [], ◌∷◌, ◌++◌, length, map, set, slice_get, Option, Some, None, refl, sym, ap, ◌∙◌, subst, inl, inr, append_assoc, eqb_tells, length-map, map-set, slice_get_within, row, Slot, CHAIN_COUNT, Links, ChainPlace, Cell, Chains, link, loose, each, first, last, IsIn, IsSegment, Stands, head_of, tail_of, new_links, new_ends, relinked, Memory, IsBelow, IsWithin, with_links, with_cells, chains, chain, relinked_memory, put_in, taken_out, edit_at, edited, links_in, links_at, head_at, tail_at, Fits, AreFit, IsLinked, held_slots}
use Rattle.uv_arena.specs.Chains.{list_of}
use Rattle.uv_arena.proofs.Each.{get-each, length-each, get-each_back, each-each, each-agree, each-same, set-as}
use Rattle.uv_arena.proofs.Lists.{last_is_in, first_is_in, in_left, in_right, segment_tells, segment_right, split_at}
use Rattle.uv_arena.proofs.Relinking.{eqb_no, own_links, same_list}
use Rattle.uv_arena.proofs.Stand.{with_list}
use Rattle.uv_arena.proofs.Places.{between, link_stands, unlink_stands}
use Rattle.uv_arena.proofs.Walk.{walked, stands_walked}

abbrev pub place_of : ℕ → Option ℕ → ℕ → Option ℕ → ChainPlace
place_of k b x n = record { list = k; before = b; slot = x; after = n }

pub or_none : {A : Type 0} (o : Option A) → (o ≡ None) ⊎ ((a : A) × (o ≡ Some a))
or_none None = inl refl
or_none (Some a) = inr (a, refl)

pub get-each_none : {A : Type 0} (f : ℕ → A → A) (xs : List A) (j : ℕ) → slice_get xs j ≡ None → slice_get (each f xs) j ≡ None
get-each_none f (x ∷ xs) (suc j) e = get-each_none (λ i. f (suc i)) xs j e
get-each_none f each e2 e = search (sym)

module _ {X : Type 0} where
  -- ---- what is read off the slots

  pub get-links : (cs : List (Cell X)) (j : ℕ) (c : Cell X) → slice_get cs j ≡ Some c → slice_get (map (λ c. c.links) cs) j ≡ Some c.links
  get-links [] j c e = cc
  get-links (y ∷ ys) zero c e = let same : y ≡ c = cc in ap (λ (z : Cell X). Some z.links) same
  get-links (y ∷ ys) (suc j) c e = get-links ys j c e

  pub get-slots : (cs : List (Cell X)) (j : ℕ) (c : Cell X) → slice_get cs j ≡ Some c → slice_get (map (λ c. c.slot) cs) j ≡ Some c.slot
  get-slots [] j c e = cc
  get-slots (y ∷ ys) zero c e = let same : y ≡ c = cc in ap (λ (z : Cell X). Some z.slot) same
  get-slots (y ∷ ys) (suc j) c e = get-slots ys j c e

  -- a function that leaves what is read off each
  map-kept : {B : Type 0} (read : Cell X → B) (f : ℕ → Cell X → Cell X) (cs : List (Cell X)) → ((j : ℕ) (c : Cell X) → read (f j c) ≡ read c)
      → map read (each f cs) ≡ map read cs
  map-kept read f [] h = refl
  map-kept read f (c ∷ cs) h = λ i. h 0 c i ∷ map-kept read (λ j. f (suc j)) cs (λ j z. h (suc j) z) i

  map-each : (f : ℕ → Links → Links) (cs : List (Cell X)) → map (λ c. c.links) (each (λ j c. with_links (f j c.links) c) cs)
      ≡ each f (map (λ c. c.links) cs)
  map-each f [] = refl
  map-each f (c ∷ cs) = ap (λ l. f 0 c.links ∷ l) (map-each (λ j. f (suc j)) cs)

  -- where the links are put back, so are the slots
  back : (f g : ℕ → Links → Links) (cs : List (Cell X)) → each g (each f (map (λ c. c.links) cs)) ≡ map (λ c. c.links) cs
      → each (λ j c. with_links (g j c.links) c) (each (λ j c. with_links (f j c.links) c) cs) ≡ cs
  back f g [] e = refl
  back f g (c ∷ cs) e =
      let head : g 0 (f 0 c.links) ≡ c.links = cc in
      let tail : each (λ j. g (suc j)) (each (λ j. f (suc j)) (map (λ c. c.links) cs)) ≡ map (λ c. c.links) cs = cc in
      λ i. with_links (head i) c ∷ back (λ j. f (suc j)) (λ j. g (suc j)) cs tail i

  -- ---- one place is relinked

  abbrev pub relink_at : ChainPlace → Option ℕ → Option ℕ → Links → ℕ → Cell X → Cell X
  relink_at t a b l j c = with_links (new_links t a b l j c.links) c

  chains_relinked : (t : ChainPlace) (a b : Option ℕ) (l : Links) (m : Memory X) → chains (relinked_memory t a b l m) ≡ relinked t a b l (chains m)
  chains_relinked t a b l m = λ k. record { links = map-each (new_links t a b l) m.row.items k; ends = each (new_ends t a b) m.ends }

  memory_back : (t : ChainPlace) (a b a' b' : Option ℕ) (l l' : Links) (m : Memory X) → relinked t a' b' l' (relinked t a b l (chains m)) ≡ chains m
      → relinked_memory t a' b' l' (relinked_memory t a b l m) ≡ m
  memory_back t a b a' b' l l' m e = λ k. record {
    row = row (back (new_links t a b l) (new_links t a' b' l') m.row.items (ap (λ (c : Chains). c.links) e) k) m.row.capacity;
    ends = ap (λ (c : Chains). c.ends) e k;
  }

  pub slots_relinked : (t : ChainPlace) (a b : Option ℕ) (l : Links) (m : Memory X) → held_slots (relinked_memory t a b l m) ≡ held_slots m
  slots_relinked t a b l m = map-kept (λ c. c.slot) (relink_at t a b l) m.row.items (λ j c. refl)

  pub length_relinked : (t : ChainPlace) (a b : Option ℕ) (l : Links) (m : Memory X)
      → length (relinked_memory t a b l m).row.items ≡ length m.row.items
  length_relinked t a b l m = length-each (relink_at t a b l) m.row.items

  pub own_relinked : (t : ChainPlace) (a b : Option ℕ) (l : Links) (m : Memory X) (c : Cell X) → slice_get m.row.items t.slot ≡ Some c
      → slice_get (relinked_memory t a b l m).row.items t.slot ≡ Some (with_links l c)
  own_relinked t a b l m c e = get-each (relink_at t a b l) m.row.items t.slot c e
      ∙ ap (λ (z : Links). Some (with_links z c)) (own_links t a b l c.links)

  -- the own links of a slot that is put in a place are written once
  one_write : (t : ChainPlace) (a b : Option ℕ) (l o : Links) (x j : ℕ) → x ≡ t.slot → (z : Cell X)
      → relink_at t a b l j (with_links (cond (eqb x j) o z.links) z) ≡ relink_at t a b l j z
  one_write t a b l o x j is z = elim (eqb_tells x j) [
    | inl e ↦ ap (λ (q : Links). with_links q z) (here (cond (eqb x j) o z.links) (sym is ∙ e.1) ∙ sym (here z.links (sym is ∙ e.1)))
    | inr n ↦ ap (λ (u : Bool). relink_at t a b l j (with_links (cond u o z.links) z)) n.0
  ] where
    here : (q : Links) → t.slot ≡ j → new_links t a b l j q ≡ l
    here q e = ap (λ k. new_links t a b l k q) (sym e) ∙ own_links t a b l q

  pub written_once : (t : ChainPlace) (x : ℕ) → x ≡ t.slot → (m : Memory X)
      → put_in t (with_cells (λ j z. with_links (cond (eqb x j) loose z.links) z) m) ≡ put_in t m
  written_once t x is m =
      let own = link t.list t.before t.after in let at = Some t.slot in
      let f : ℕ → Cell X → Cell X = λ j z. with_links (cond (eqb x j) loose z.links) z in
      let cells = each-each f (relink_at t at at own) m.row.items
      ∙ each-agree (λ j z. relink_at t at at own j (f j z)) (relink_at t at at own) m.row.items
      (λ j z e. one_write t at at own loose x j is z) in
      λ k. record { row = row (cells k) m.row.capacity; ends = each (new_ends t at at) m.ends }

  -- another slot stays on the chain that it is on
  pub list_relinked : (t : ChainPlace) (a b : Option ℕ) (l : Links) (m : Memory X) (y : ℕ) → t.slot ≢ y
      → (links_at (relinked_memory t a b l m) y).list ≡ (links_at m y).list
  list_relinked t a b l m y n = elim (or_none (slice_get m.row.items y)) [
    | inl e ↦ ap (λ o. (links_in o).list) (get-each_none (relink_at t a b l) m.row.items y e ∙ sym e)
    | inr c ↦ ap (λ o. (links_in o).list) (get-each (relink_at t a b l) m.row.items y c.0 c.1) ∙ same_list t a b l y c.0.links n
        ∙ ap (λ o. (links_in o).list) (sym c.1)
  ]

  -- what is known after a chain became new
  pub record IsMade (m n : Memory X) (t : ChainPlace) (new : List ℕ) : Type 0 where
    pub within : IsWithin t (length n.row.items)
    pub linked : IsLinked n
    pub now : chain n t.list ≡ new
    pub others : (k : ℕ) → k < CHAIN_COUNT → k ≢ t.list → chain n k ≡ chain m k

  below : (m : Memory X) → IsLinked m → (k : ℕ) → k < CHAIN_COUNT → (y : ℕ) → IsIn y (chain m k) → y < length m.row.items
  below m s k lt y h =
      let tells = segment_tells (chains m).links k None (chain m k) None (s.stands.lists k lt).segment y h in
      subst (λ n. y < n) (length-map m.row.items (λ z. z.links)) (slice_get_within (chains m).links y tells.0 tells.1)

  last_below : (m : Memory X) → IsLinked m → (k : ℕ) → k < CHAIN_COUNT → (us vs : List ℕ) → chain m k ≡ us ++ vs → (o : Option ℕ) → o ≡ last None us
      → IsBelow o (length m.row.items)
  last_below m s k lt us vs is None e = tt
  last_below m s k lt us vs is (Some y) e = below m s k lt y (subst (IsIn y) (sym is) (in_left y us vs (last_is_in us y (sym e))))

  first_below : (m : Memory X) → IsLinked m → (k : ℕ) → k < CHAIN_COUNT → (us vs : List ℕ) → chain m k ≡ us ++ vs → (o : Option ℕ) → o ≡ first vs None
      → IsBelow o (length m.row.items)
  first_below m s k lt us vs is None e = tt
  first_below m s k lt us vs is (Some y) e = below m s k lt y (subst (IsIn y) (sym is) (in_right y us vs (first_is_in vs y (sym e))))

  made : (m : Memory X) → IsLinked m → (t : ChainPlace) (a b : Option ℕ) (l : Links) (new : List ℕ) → IsWithin t (length m.row.items)
      → Stands (relinked t a b l (chains m)) (with_list t.list new (chain m)) → IsMade m (relinked_memory t a b l m) t new
  made m s t a b l new within st =
      let n = relinked_memory t a b l m in let xs = with_list t.list new (chain m) in
      let st' : Stands (chains n) xs = subst (λ c. Stands c xs) (sym (chains_relinked t a b l m)) st in
      let long = length_relinked t a b l m in
      record {
        within = subst (IsWithin t) (sym long) within;
        linked = record {
          stands = stands_walked (chains n) xs st';
          all_ends = length-each (new_ends t a b) m.ends ∙ s.all_ends;
          within = subst (λ i. i ≤ m.row.capacity) (sym long) s.within;
          few = s.few;
        };
        now = walked (chains n) t.list (xs t.list) (st'.lists t.list within.0) ∙ ap (λ u. cond u new (chain m t.list)) (eq-eqb t.list t.list refl);
        others = λ k lt ne. walked (chains n) k (xs k) (st'.lists k lt) ∙ ap (λ u. cond u new (chain m k)) (eqb_no t.list k (λ e. ne (sym e)));
      }

  pub put_made : (m : Memory X) → IsLinked m → (k x : ℕ) (us vs : List ℕ) → k < CHAIN_COUNT → chain m k ≡ us ++ vs → (c : Cell X)
      → slice_get m.row.items x ≡ Some c → c.links.list ≡ None
      → IsMade m (put_in (between k us x vs) m) (between k us x vs) (us ++ x ∷ vs)
      × (taken_out (between k us x vs) (put_in (between k us x vs) m) ≡ m)
  put_made m s k x us vs lt is c at free =
      let t = between k us x vs in
      let got = get-links m.row.items x c at in
      let bare = got ∙ ap Some (s.stands.rest x c.links got free) in
      let both = link_stands (chains m) (chain m) s.stands k x us vs lt is bare in
      let within : IsWithin t (length m.row.items) = (
        lt,
        last_below m s k lt us vs is (last None us) refl,
        slice_get_within m.row.items x c at,
        first_below m s k lt us vs is (first vs None) refl,
      ) in (
        made m s t (Some x) (Some x) (link k (last None us) (first vs None)) (us ++ x ∷ vs) within both.0,
        memory_back t (Some x) (Some x) (first vs None) (last None us) (link k (last None us) (first vs None)) loose m both.1,
      )

  pub take_made : (m : Memory X) → IsLinked m → (k x : ℕ) (us vs : List ℕ) → k < CHAIN_COUNT → chain m k ≡ us ++ x ∷ vs
      → IsMade m (taken_out (between k us x vs) m) (between k us x vs) (us ++ vs) × (put_in (between k us x vs) (taken_out (between k us x vs) m) ≡ m)
  take_made m s k x us vs lt is =
      let t = between k us x vs in
      let both = unlink_stands (chains m) (chain m) s.stands k x us vs lt is in
      let within : IsWithin t (length m.row.items) = (
        lt,
        last_below m s k lt us (x ∷ vs) is (last None us) refl,
        below m s k lt x (subst (IsIn x) (sym is) (in_right x us (x ∷ vs) (inl refl))),
        first_below m s k lt (us ++ x ∷ []) vs (is ∙ sym (append_assoc us (x ∷ []) vs)) (first vs None) refl,
      ) in (
        made m s t (first vs None) (last None us) loose (us ++ vs) within both.0,
        memory_back t (first vs None) (last None us) (Some x) (Some x) loose (link k (last None us) (first vs None)) m both.1,
      )

  -- the ends of a chain are its first and its last slot
  pub head_is : (m : Memory X) → IsLinked m → (k : ℕ) → k < CHAIN_COUNT → head_at m k ≡ first (chain m k) None
  head_is m s k lt = ap head_of (s.stands.lists k lt).ends

  pub tail_is : (m : Memory X) → IsLinked m → (k : ℕ) → k < CHAIN_COUNT → tail_at m k ≡ last None (chain m k)
  tail_is m s k lt = ap tail_of (s.stands.lists k lt).ends

  -- a slot on a chain has its two neighbours there
  pub placed : (m : Memory X) → IsLinked m → (k x : ℕ) (c : Cell X) → slice_get m.row.items x ≡ Some c → c.links.list ≡ Some k
      → (k < CHAIN_COUNT) × ((us : List ℕ) × (vs : List ℕ) × (chain m k ≡ us ++ x ∷ vs) × (c.links ≡ link k (last None us) (first vs None)))
  placed m s k x c at is =
      let g = get-links m.row.items x c at in
      let on = s.stands.listed x c.links k g is in
      let cut = split_at x (chain m k) on.1 in
      let seg = segment_right (chains m).links k None cut.0 (x ∷ cut.1) None
      (subst (λ l. IsSegment (chains m).links k None l None) cut.2 (s.stands.lists k on.0).segment) in
      (on.0, (cut.0, cut.1, cut.2, cc (g, seg.0)))

  no_links : (cs : List (Cell X)) (y : ℕ) (l : Links) → slice_get cs y ≡ None → slice_get (map (λ c. c.links) cs) y ≡ Some l → ⊥
  no_links [] y l n e = cc
  no_links (c ∷ cs) zero l n e = cc
  no_links (c ∷ cs) (suc y) l n e = no_links cs y l n e

  -- a slot that is a member of a chain says so
  pub member_tells : (m : Memory X) → IsLinked m → (k : ℕ) → k < CHAIN_COUNT → (x : ℕ) → IsIn x (chain m k)
      → (c : Cell X) × (slice_get m.row.items x ≡ Some c) × (c.links.list ≡ Some k)
  member_tells m s k lt x h =
      let tells = segment_tells (chains m).links k None (chain m k) None (s.stands.lists k lt).segment x h in
      elim (or_none (slice_get m.row.items x)) [
        | inl n ↦ absurd (no_links m.row.items x tells.0 n tells.1)
        | inr c ↦ let same : c.0.links ≡ tells.0 = cc (get-links m.row.items x c.0 c.1, tells.1) in
            (c.0, c.1, ap (λ (z : Links). z.list) same ∙ tells.2)
      ]

  -- ---- what a slot holds is written

  links_stay : (u : Bool) (s : Slot X) (c : Cell X) → (let r : Cell X = cond u (record { slot = s; links = c.links }) c in r.links ≡ c.links)
  links_stay true s c = refl
  links_stay false s c = refl

  pub chains_edited : (x : ℕ) (s : Slot X) (m : Memory X) → chains (edited x s m) ≡ chains m
  chains_edited x s m = λ k. record { links = map-kept (λ c. c.links) (edit_at x s) m.row.items (λ j c. links_stay (eqb x j) s c) k; ends = m.ends }

  pub chain_edited : (x : ℕ) (s : Slot X) (m : Memory X) (k : ℕ) → chain (edited x s m) k ≡ chain m k
  chain_edited x s m k = ap (λ (z : Chains). list_of z k) (chains_edited x s m)

  pub length_edited : (x : ℕ) (s : Slot X) (m : Memory X) → length (edited x s m).row.items ≡ length m.row.items
  length_edited x s m = length-each (edit_at x s) m.row.items

  pub linked_edited : (m : Memory X) → IsLinked m → (x : ℕ) (s : Slot X) → IsLinked (edited x s m)
  linked_edited m h x s = record {
    stands = subst (λ (z : Chains). Stands z (list_of z)) (sym (chains_edited x s m)) h.stands;
    all_ends = h.all_ends;
    within = subst (λ n. n ≤ m.row.capacity) (sym (length_edited x s m)) h.within;
    few = h.few;
  }

  pub own_edited : (x : ℕ) (s : Slot X) (m : Memory X) (c : Cell X) → slice_get m.row.items x ≡ Some c
      → slice_get (edited x s m).row.items x ≡ Some (record { slot = s; links = c.links })
  own_edited x s m c at = get-each (edit_at x s) m.row.items x c at
      ∙ ap (λ (u : Bool). Some (cond u (record { slot = s; links = c.links }) c)) (eq-eqb x x refl)

  other_edited : (x : ℕ) (s : Slot X) (y : ℕ) (c : Cell X) → x ≢ y → edit_at x s y c ≡ c
  other_edited x s y c n = ap (λ (u : Bool). cond u (record { slot = s; links = c.links }) c) (eqb_no x y n)

  pub list_edited : (x : ℕ) (s : Slot X) (m : Memory X) (y : ℕ) → links_at (edited x s m) y ≡ links_at m y
  list_edited x s m y = elim (or_none (slice_get m.row.items y)) [
    | inl e ↦ ap links_in (get-each_none (edit_at x s) m.row.items y e ∙ sym e)
    | inr c ↦ ap links_in (get-each (edit_at x s) m.row.items y c.0 c.1) ∙ links_stay (eqb x y) s c.0 ∙ ap links_in (sym c.1)
  ]

  -- the plain slots are written too
  pub slots_edited : (x : ℕ) (s : Slot X) (m : Memory X) (c : Cell X) → slice_get m.row.items x ≡ Some c
      → held_slots (edited x s m) ≡ set (held_slots m) x s
  slots_edited x s m c at =
      let new : Cell X = record { slot = s; links = c.links } in
      let written = set-as m.row.items x c new (edit_at x s) at (ap (λ (u : Bool). cond u (record {
        slot = s;
        links =
            c.links;
      }) c) (eq-eqb x x refl)) (λ j z n. other_edited x s j z n) in
      ap (map (λ z. z.slot)) (sym written) ∙ map-set (λ (z : Cell X). z.slot) m.row.items x new

  edit_twice : (u : Bool) (s s' : Slot X) (c : Cell X) → (let r : Cell X = cond u (record { slot = s; links = c.links }) c in
      cond u (record { slot = s'; links = r.links }) r ≡ cond u (record { slot = s'; links = c.links }) c)
  edit_twice true s s' c = refl
  edit_twice false s s' c = refl

  -- what was there is written again
  pub edited_back : (m : Memory X) (x : ℕ) (s : Slot X) (c : Cell X) → slice_get m.row.items x ≡ Some c → edited x c.slot (edited x s m) ≡ m
  edited_back m x s c at =
      let cells = each-each (edit_at x s) (edit_at x c.slot) m.row.items
      ∙ each-agree (λ j z. edit_at x c.slot j (edit_at x s j z)) (edit_at x c.slot) m.row.items (λ j z q. edit_twice (eqb x j) s c.slot z)
      ∙ each-same (edit_at x c.slot) m.row.items (λ j z q. elim (eqb_tells x j) [
        | inl n ↦ let same : c ≡ z = cc (at, ap (slice_get m.row.items) n.1 ∙ q) in
            ap (λ (u : Bool). cond u (record { slot = c.slot; links = z.links }) z) n.0 ∙ (λ k. record { slot = (same k).slot; links = z.links })
        | inr n ↦ other_edited x c.slot j z n.1
      ]) in
      λ k. record { row = row (cells k) m.row.capacity; ends = m.ends }

  -- ---- what slots hold fits their chains

  -- all but one slot
  abbrev pub OthersFit : ℕ → ℕ → List (Cell X) → Type 0
  OthersFit last x cs = (y : ℕ) (c : Cell X) → x ≢ y → slice_get cs y ≡ Some c → Fits last c.links.list c.slot

  pub others_fit : (last x : ℕ) (cs : List (Cell X)) → AreFit last cs → OthersFit last x cs
  others_fit last x cs h y c n at = h y c at

  pub fit_relinked : (last : ℕ) (t : ChainPlace) (a b : Option ℕ) (l : Links) (m : Memory X) → OthersFit last t.slot m.row.items
      → OthersFit last t.slot (relinked_memory t a b l m).row.items
  fit_relinked last t a b l m h y z n at =
      let was = get-each_back (relink_at t a b l) m.row.items y z at in
      subst (λ (q : Cell X). Fits last q.links.list q.slot) (sym was.2)
      (subst (λ o. Fits last o was.0.slot) (sym (same_list t a b l y was.0.links n)) (h y was.0 n was.1))

  pub fit_edited : (last x : ℕ) (s : Slot X) (m : Memory X) → OthersFit last x m.row.items → OthersFit last x (edited x s m).row.items
  fit_edited last x s m h y z n at =
      let was = get-each_back (edit_at x s) m.row.items y z at in
      subst (λ (q : Cell X). Fits last q.links.list q.slot) (sym (was.2 ∙ other_edited x s y was.0 n)) (h y was.0 n was.1)

  pub all_fit : (last x : ℕ) (cs : List (Cell X)) → OthersFit last x cs → (c : Cell X) → slice_get cs x ≡ Some c → Fits last c.links.list c.slot
      → AreFit last cs
  all_fit last x cs h c at own y z q = elim (eqb_tells x y) [
    | inl e ↦ let same : c ≡ z = cc (at, ap (slice_get cs) e.1 ∙ q) in subst (λ (w : Cell X). Fits last w.links.list w.slot) same own
    | inr n ↦ h y z n.1 q
  ]

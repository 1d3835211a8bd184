-- What stands first, last, next and before on a list, and what the next taking gives.
use Rattle.uv_arena.proofs.ProofNames.{◌≡◌, ℕ, eqb, ◌<◌, true, false, ◌&&◌, List, [], ◌∷◌, ◌++◌, length, Option, Some, None, is_some, refl, sym, ap, ◌∙◌, subst, inr, arith, slice_get_within, Id, LIST_COUNT, ListName, number, without, Links, link, first, last, IsIn, IsApart, IsSegment, Image, name_at, chains, chain, links_in, links_at, slot_in, slot_at, head_at, tail_at, members, held, on_list, IsSound, IsListed, IsFirst, IsLast}
use Rattle.uv_arena.proofs.Lists.{in_left, in_right, first_is_in, last_is_in, segment_right}
use Rattle.uv_arena.proofs.Memories.{get-links, head_is, tail_is, placed, member_tells}
use Rattle.uv_arena.proofs.Lookups.{held_now, is_loose, is_on, member_held, name_below, one_list, without_none, without_one}
use Rattle.uv_arena.proofs.Changes.{some_first}

last_none : (x : ℕ) (xs : List ℕ) (q : Option ℕ) → last q (x ∷ xs) ≡ None → ⊥
last_none x [] q e = cc
last_none x (y ∷ ys) q e = last_none y ys (Some x) e

none_last : (xs : List ℕ) → last None xs ≡ None → xs ≡ []
none_last [] e = refl
none_last (x ∷ xs) e = absurd (last_none x xs None e)

last_cut : (x : ℕ) (xs : List ℕ) (q : Option ℕ) (y : ℕ) → last q (x ∷ xs) ≡ Some y → (us : List ℕ) × (x ∷ xs ≡ us ++ y ∷ [])
last_cut x [] q y e = let same : x ≡ y = cc in ([], ap (λ z. z ∷ []) same)
last_cut x (z ∷ zs) q y e = let cut = last_cut z zs (Some x) y e in (x ∷ cut.0, ap (λ l. x ∷ l) cut.1)

some_last : (xs : List ℕ) (y : ℕ) → last None xs ≡ Some y → (us : List ℕ) × (xs ≡ us ++ y ∷ [])
some_last [] y e = cc
some_last (x ∷ xs) y e = last_cut x xs None y e

module _ {X : Type 0} where
  -- the id of what a slot holds
  abbrev pub id_at : Image X → ℕ → Id
  id_at v x = record { slot = x; generation = (slot_at v.memory x).generation }

  pub record IsMember (v : Image X) (x : ℕ) : Type 0 where
    pub slot : x < length v.memory.row.items
    pub listed : IsListed v (id_at v x)

  pub is_member : (v : Image X) → IsSound v → (k x : ℕ) → k < LIST_COUNT → IsIn x (chain v.memory k) → IsMember v x
  is_member v s k x lt h =
      let m = v.memory in let c = member_held v s k x lt h in
      let gen : c.0.slot.generation ≡ (slot_at m x).generation = sym (ap (λ o. (slot_in o).generation) c.2) in
      let there : is_some (held v (id_at v x)) ≡ true = ap is_some (held_now m (id_at v x) c.0 c.2 gen ∙ c.3) in
      record {
        slot = slice_get_within m.row.items x c.0 c.2;
        listed = record { held = there; listed = λ i. there i && is_some ((ap (λ o. (links_in o).list) c.2 ∙ c.4) i) };
      }

  -- ---- the ends of a list

  pub record HeadIs (v : Image X) (list : ListName) (x : ℕ) : Type 0 where
    pub slot : x < length v.memory.row.items
    pub first : IsFirst v list (id_at v x)

  pub first_listed : (v : Image X) → IsSound v → (list : ListName) (x : ℕ) → head_at v.memory (name_at v.names (number list)) ≡ Some x
      → HeadIs v list x
  first_listed v s list x e =
      let k = name_at v.names (number list) in let lt : k < LIST_COUNT = name_below v s list in
      let is = sym (head_is v.memory s.linked k (omega arith)) ∙ e in
      let cut = some_first (chain v.memory k) x is in let one = is_member v s k x lt (first_is_in (chain v.memory k) x is) in
      record {
        slot = one.slot;
        first = record {
          rest = cut.0;
          is = cut.1;
          after = ap (λ l. without eqb l x) cut.1 ∙ without_one [] cut.0 x (subst IsApart cut.1 (s.linked.stands.lists k (omega arith)).apart);
          others = λ l ne. without_none (members v l) x (λ i. one_list v s l list x i (first_is_in (chain v.memory k) x is) ne);
          listed = one.listed;
        };
      }

  pub record TailIs (v : Image X) (list : ListName) (x : ℕ) : Type 0 where
    pub slot : x < length v.memory.row.items
    pub last : IsLast v list (id_at v x)

  pub last_listed : (v : Image X) → IsSound v → (list : ListName) (x : ℕ) → tail_at v.memory (name_at v.names (number list)) ≡ Some x
      → TailIs v list x
  last_listed v s list x e =
      let k = name_at v.names (number list) in let lt : k < LIST_COUNT = name_below v s list in
      let is = sym (tail_is v.memory s.linked k (omega arith)) ∙ e in
      let cut = some_last (chain v.memory k) x is in let one = is_member v s k x lt (last_is_in (chain v.memory k) x is) in
      record { slot = one.slot; last = record { front = cut.0; is = cut.1; listed = one.listed } }

  pub last_missing : (v : Image X) → IsSound v → (list : ListName) → tail_at v.memory (name_at v.names (number list)) ≡ None → members v list ≡ []
  last_missing v s list e =
      let k = name_at v.names (number list) in let lt : k < LIST_COUNT = name_below v s list in
      none_last (chain v.memory k) (sym (tail_is v.memory s.linked k (omega arith)) ∙ e)

  -- ---- neighbours

  pub record Neighbours (v : Image X) (d : Id) : Type 0 where
    pub slot : d.slot < length v.memory.row.items
    pub next : (y : ℕ) → (links_at v.memory d.slot).next ≡ Some y → IsMember v y
    pub prev : (y : ℕ) → (links_at v.memory d.slot).prev ≡ Some y → IsMember v y
    pub after : (l : ListName) (us vs : List ℕ) → members v l ≡ us ++ d.slot ∷ vs → (links_at v.memory d.slot).next ≡ first vs None
    pub before : (l : ListName) (us vs : List ℕ) → members v l ≡ us ++ d.slot ∷ vs → (links_at v.memory d.slot).prev ≡ last None us

  pub neighbours : (v : Image X) → IsSound v → (d : Id) → on_list v d ≡ true → Neighbours v d
  neighbours v s d h =
      let m = v.memory in let x = d.slot in let on = is_on v s d h in let c = on.there.cell in
      let cut = placed m s.linked on.list x c on.there.at on.on in let us = cut.1.0 in let vs = cut.1.1 in
      let own : links_at m x ≡ c.links = ap links_in on.there.at in
      let by : (l : ListName) (ys zs : List ℕ) → members v l ≡ ys ++ x ∷ zs
      → (c.links.next ≡ first zs None) × (c.links.prev ≡ last None ys) = λ l ys zs is.
      let k = name_at v.names (number l) in let lt : k < LIST_COUNT = name_below v s l in
      let seg = segment_right (chains m).links k None ys (x ∷ zs) None
      (subst (λ q. IsSegment (chains m).links k None q None) is (s.linked.stands.lists k (omega arith)).segment) in
      let got = get-links m.row.items x c on.there.at in
      let same : c.links ≡ link k (last None ys) (first zs None) = cc (got, seg.0) in
      (ap (λ (q : Links). q.next) same, ap (λ (q : Links). q.prev) same) in
      record {
        slot = slice_get_within m.row.items x c on.there.at;
        next = λ y e. is_member v s on.list y on.below
            (subst (IsIn y) (sym cut.1.2)
            (in_right y us (x ∷ vs) (inr (first_is_in vs y (sym (ap (λ (l : Links). l.next) cut.1.3) ∙ sym (ap (λ (l : Links). l.next) own)
            ∙ e)))));
        prev = λ y e. is_member v s on.list y on.below
            (subst (IsIn y) (sym cut.1.2)
            (in_left y us (x ∷ vs) (last_is_in us y (sym (ap (λ (l : Links). l.prev) cut.1.3) ∙ sym (ap (λ (l : Links). l.prev) own) ∙ e))));
        after = λ l ys zs is. ap (λ (q : Links). q.next) own ∙ (by l ys zs is).0;
        before = λ l ys zs is. ap (λ (q : Links). q.prev) own ∙ (by l ys zs is).1;
      }

  -- a slot that is on no list is a member of none
  pub apart_from : (v : Image X) → IsSound v → (d : Id) → is_some (held v d) ≡ true → on_list v d ≡ false → (l : ListName)
      → without eqb (members v l) d.slot ≡ members v l
  apart_from v s d h bare l =
      let k = name_at v.names (number l) in let lt : k < LIST_COUNT = name_below v s l in
      without_none (members v l) d.slot (λ i.
      let c = member_tells v.memory s.linked k (omega arith) d.slot i in cc (is_loose v d h bare c.0 c.1, c.2))

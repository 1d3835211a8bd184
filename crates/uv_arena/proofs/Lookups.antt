-- What is held under an id, and whether it is on a list.
use Rattle.uv_arena.proofs.ProofNames.{◌≡◌, ◌≢◌, ℕ, ◌<◌, Bool, true, false, ◌&&◌, eqb, eq-eqb, List, [], ◌∷◌, ◌++◌, slice_get, Option, Some, None, is_some, option_map, option_and_then, refl, sym, ap, ◌∙◌, inl, inr, arith, if◌then◌else◌, not, and_parts, eqb_tells, slice_get-map, Id, LIST_COUNT, ListName, number, without, Cell, IsIn, IsApart, FREE, Image, Memory, name_at, chain, links_in, links_at, held_slots, members, held, on_list, IsSound}
use Rattle.uv_records.specs.Slots as plain
use Rattle.uv_arena.proofs.Lists.{in_right}
use Rattle.uv_arena.proofs.Memories.{or_none, placed, member_tells}
use Rattle.uv_arena.proofs.Names.{number_apart, number_below}

some_is : {A : Type 0} (o : Option A) → is_some o ≡ true → (a : A) × (o ≡ Some a)
some_is o e = grind arith

none_is : {A : Type 0} (o : Option A) → is_some o ≡ false → o ≡ None
none_is o e = grind arith

-- ---- a list without one of its members

pub without_none : (xs : List ℕ) (x : ℕ) → (IsIn x xs → ⊥) → without eqb xs x ≡ xs
without_none [] x h = refl
without_none (y ∷ ys) x h = grind (arith, eqb_tells, (without_none ys x (λ i. h (inr i))))

without_first : (xs : List ℕ) (x : ℕ) → without eqb (x ∷ xs) x ≡ without eqb xs x
without_first xs x = ap (λ (u : Bool). if not u then x ∷ without eqb xs x else without eqb xs x) (eq-eqb x x refl)

pub without_one : (us vs : List ℕ) (x : ℕ) → IsApart (us ++ x ∷ vs) → without eqb (us ++ x ∷ vs) x ≡ us ++ vs
without_one [] vs x h = without_first vs x ∙ without_none vs x h.0
without_one (u ∷ us) vs x h = elim (eqb_tells u x) [
  | inl e ↦ absurd (h.0 (in_right u us (x ∷ vs) (inl e.1)))
  | inr n ↦ ap (λ (b : Bool). if not b then u ∷ without eqb (us ++ x ∷ vs) x else without eqb (us ++ x ∷ vs) x) n.0
      ∙ ap (λ l. u ∷ l) (without_one us vs x h.1)
]

module _ {X : Type 0} where
  -- ---- held

  -- what a look-up of an id comes to, by the slot
  pub held_by : (m : Memory X) (d : Id) (o : Option (Cell X)) → slice_get m.row.items d.slot ≡ o
      → plain.held (held_slots m) d ≡ option_and_then (plain.held_in d) (option_map (λ c. c.slot) o)
  held_by m d o e = ap (option_and_then (plain.held_in d)) (slice_get-map (λ (c : Cell X). c.slot) m.row.items d.slot
      ∙ ap (option_map (λ c. c.slot)) e)

  pub held_now : (m : Memory X) (d : Id) (c : Cell X) → slice_get m.row.items d.slot ≡ Some c → c.slot.generation ≡ d.generation
      → plain.held (held_slots m) d ≡ c.slot.content
  held_now m d c at e = held_by m d (Some c) at ∙ ap (λ (u : Bool). if u then c.slot.content else None) (eq-eqb c.slot.generation d.generation e)

  pub record IsThere (m : Memory X) (d : Id) : Type 0 where
    pub cell : Cell X
    pub content : X
    pub at : slice_get m.row.items d.slot ≡ Some cell
    pub holds : cell.slot.content ≡ Some content
    pub generation : cell.slot.generation ≡ d.generation

  pub held_tells : (m : Memory X) (d : Id) (v : X) → plain.held (held_slots m) d ≡ Some v
      → (c : Cell X) × (slice_get m.row.items d.slot ≡ Some c) × (c.slot.content ≡ Some v) × (c.slot.generation ≡ d.generation)
  held_tells m d v e = elim (or_none (slice_get m.row.items d.slot)) [
    | inl n ↦ let none : plain.held (held_slots m) d ≡ None = held_by m d None n in cc
    | inr c ↦ elim (eqb_tells c.0.slot.generation d.generation) [
      | inl y ↦ (c.0, c.1, sym (held_now m d c.0 c.1 y.1) ∙ e, y.1)
      | inr n ↦ let none : plain.held (held_slots m) d ≡ None = held_by m d (Some c.0) c.1
          ∙ ap (λ (u : Bool). if u then c.0.slot.content else None) n.0 in cc
    ]
  ]

  pub is_there : (m : Memory X) (d : Id) → is_some (plain.held (held_slots m) d) ≡ true → IsThere m d
  is_there m d h =
      let some = some_is (plain.held (held_slots m) d) h in let t = held_tells m d some.0 some.1 in
      record { cell = t.0; content = some.0; at = t.1; holds = t.2; generation = t.3 }

  -- ---- on a list

  -- a slot that isn't on a list is held there by no links
  pub is_loose : (v : Image X) (d : Id) → is_some (held v d) ≡ true → on_list v d ≡ false → (c : Cell X)
      → slice_get v.memory.row.items d.slot ≡ Some c → c.links.list ≡ None
  is_loose v d h bare c at =
      let off : is_some (links_at v.memory d.slot).list ≡ false = ap (λ u. u && is_some (links_at v.memory d.slot).list) (sym h) ∙ bare in
      none_is c.links.list (ap (λ o. is_some (links_in o).list) (sym at) ∙ off)

  pub record IsThereOn (m : Memory X) (d : Id) : Type 0 where
    pub there : IsThere m d
    pub list : ℕ
    pub on : there.cell.links.list ≡ Some list
    pub below : list < LIST_COUNT

  -- a slot that is on a list is held there by its links
  pub is_on : (v : Image X) → IsSound v → (d : Id) → on_list v d ≡ true → IsThereOn v.memory d
  is_on v s d h =
      let t = is_there v.memory d ((and_parts (is_some (held v d)) (is_some (links_at v.memory d.slot).list) h).0) in
      let on = some_is t.cell.links.list (ap (λ o. is_some (links_in o).list) (sym t.at)
      ∙ (and_parts (is_some (held v d)) (is_some (links_at v.memory d.slot).list) h).1) in
      let lt = (placed v.memory s.linked on.0 d.slot t.cell t.at on.1).0 in
      let fit = s.fit d.slot t.cell t.at in
      let busy : on.0 ≢ FREE = λ e. cc (fit.free (on.1 ∙ ap Some e), t.holds) in
      record { there = t; list = on.0; on = on.1; below = omega (arith, lt, busy) }

  pub on_list_by : (i j : Image X) (d : Id) → held i d ≡ held j d → (links_at i.memory d.slot).list ≡ (links_at j.memory d.slot).list
      → on_list i d ≡ on_list j d
  on_list_by i j d e f = λ k. is_some (e k) && is_some (f k)

  -- ---- lists by name

  pub name_below : (v : Image X) → IsSound v → (l : ListName) → name_at v.names (number l) < LIST_COUNT
  name_below v s l = s.names.below (number l) (number_below l)

  pub name_other : (v : Image X) → IsSound v → (a b : ListName) → a ≢ b → name_at v.names (number a) ≢ name_at v.names (number b)
  name_other v s a b n e = n (number_apart a b (s.names.apart (number a) (number b) (number_below a) (number_below b) e))

  -- a slot is on one list at the most
  pub one_list : (v : Image X) → IsSound v → (a b : ListName) (x : ℕ) → IsIn x (members v a) → IsIn x (members v b) → a ≢ b → ⊥
  one_list v s a b x ha hb ne =
      let la : name_at v.names (number a) < LIST_COUNT = name_below v s a in let lb : name_at v.names (number b) < LIST_COUNT = name_below v s b in
      let ca = member_tells v.memory s.linked (name_at v.names (number a)) (omega arith) x ha in
      let cb = member_tells v.memory s.linked (name_at v.names (number b)) (omega arith) x hb in
      name_other v s a b ne (let same : name_at v.names (number a) ≡ name_at v.names (number b) = cc (ca.1, cb.1, ca.2, cb.2) in same)

  -- a member of a list is held
  pub member_held : (v : Image X) → IsSound v → (k x : ℕ) → k < LIST_COUNT → IsIn x (chain v.memory k)
      → (c : Cell X) × (w : X) × (slice_get v.memory.row.items x ≡ Some c) × (c.slot.content ≡ Some w) × (c.links.list ≡ Some k)
  member_held v s k x lt h =
      let on = member_tells v.memory s.linked k (omega arith) x h in let fit = s.fit x on.0 on.1 in
      elim (or_none on.0.slot.content) [
        | inl e ↦ elim (fit.empty e) [ inl f ↦ (let same : k ≡ FREE = cc (on.2, f) in absurd (omega (arith, same, lt))) | inr f ↦ cc (on.2, f.0) ]
        | inr w ↦ (on.0, w.0, on.1, w.1, on.2)
      ]

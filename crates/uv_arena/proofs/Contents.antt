-- What a slot holds, and what its content is read as.
use Rattle.uv_arena.proofs.ProofNames.{◌≡◌, ℕ, zero, suc, ◌+◌, eq-eqb, List, [], ◌∷◌, length, set, slice_get, Option, Some, None, IfSome, IfNone, option_and_then, refl, sym, ap, ◌∙◌, subst, inl, inr, arith, eqb_tells, elements, slice_get_past, Id, Slot, Image, held, IsSet}
use Rattle.uv_records.specs.Slots as plain
use Rattle.uv_arena.proofs.Memories.{or_none}

pub set_here : {A : Type 0} (xs : List A) (k : ℕ) (a b : A) → slice_get xs k ≡ Some a → slice_get (set xs k b) k ≡ Some b
set_here xs k a b e = grind (arith, elements)

pub set_there : {A : Type 0} (xs : List A) (k j : ℕ) (b : A) → (j ≡ k → ⊥) → slice_get (set xs k b) j ≡ slice_get xs j
set_there xs k j b n = grind (arith, elements)

pub set_back : {A : Type 0} (xs : List A) (k : ℕ) (a b : A) → slice_get xs k ≡ Some a → set (set xs k b) k a ≡ xs
set_back (x ∷ xs) (suc k) a b e = ap (λ l. x ∷ l) (set_back xs k a b e)
set_back each e1 a b e = grind arith

module _ {X : Type 0} where
  -- a slot without content holds nothing
  by_content : (e : Id) (q : Slot X) → q.content ≡ None → plain.held_in e q ≡ None
  by_content e q h = elim (eqb_tells q.generation e.generation) [ inl y ↦ rw y.0 h | inr n ↦ rw n.0 refl ]

  -- nothing is held past the end
  pub past_end : (slots : List (Slot X)) (e : Id) → e.slot ≡ length slots → plain.held slots e ≡ None
  past_end slots e s = ap (option_and_then (plain.held_in e)) (slice_get_past slots e.slot (omega (arith, s)))

  -- the slot of what is held under an id
  pub slot_tells : (slots : List (Slot X)) (d : Id) (v : X) → plain.held slots d ≡ Some v
      → (q : Slot X) × (slice_get slots d.slot ≡ Some q) × (q.content ≡ Some v)
  slot_tells slots d v e = elim (or_none (slice_get slots d.slot)) [
    | inl n ↦ cc (ap (option_and_then (plain.held_in d)) n, e)
    | inr q ↦
        let held = rw q.1 at e in
        elim (eqb_tells q.0.generation d.generation) [
          | inl y ↦ (q.0, q.1, (rw y.0 at held))
          | inr n ↦ let none = rw n.0 at held in cc none
        ]
  ]

  -- the next slot, where it is the front of the free list, is empty
  pub next_tells : (slots : List (Slot X)) (d : Id) (unused n : ℕ) (ns : List ℕ) → plain.next_id slots unused (n ∷ ns) ≡ Some d
      → plain.held slots d ≡ None → (q : Slot X) × (slice_get slots d.slot ≡ Some q) × (q.content ≡ None)
  next_tells slots d unused n ns next none = elim (or_none (slice_get slots n)) [
    | inl q ↦ cc (ap (option_and_then (λ (z : Slot X). Some (plain.id_of n z))) q, next)
    | inr q ↦
        let is : plain.id_of n q.0 ≡ d = cc (ap (option_and_then (λ (z : Slot X). Some (plain.id_of n z))) q.1, next) in
        let at : slice_get slots d.slot ≡ Some q.0 = ap (λ (z : Id). slice_get slots z.slot) (sym is) ∙ q.1 in
        let yes = eq-eqb q.0.generation d.generation (ap (λ (z : Id). z.generation) is) in (q.0, at, (rw yes at (rw at at none)))
  ]

  -- nor is anything held in the slot that is next
  pub next_slot : (slots : List (Slot X)) (d e : Id) (unused : ℕ) (free : List ℕ) → plain.next_id slots unused free ≡ Some d
      → plain.held slots d ≡ None → e.slot ≡ d.slot → plain.held slots e ≡ None
  next_slot slots d e zero [] next none same = cc
  next_slot slots d e (suc n) [] next none same = past_end slots e (same ∙ cc)
  next_slot slots d e unused (n ∷ ns) next none same =
      let q = next_tells slots d unused n ns next none in
      ap (option_and_then (plain.held_in e)) (ap (slice_get slots) same ∙ q.1) ∙ by_content e q.0 q.2

  -- nor in one that was freed
  pub freed_slot : (s : plain.Slots X) (d e : Id) (v : X) → plain.held s.slots d ≡ Some v → e.slot ≡ d.slot → (last : ℕ)
      → plain.held (plain.freed last d s).slots e ≡ None
  freed_slot s d e v there same last =
      elim (eqb_tells d.generation last) [ inl q ↦ rw q.0 (emptied d.generation) | inr q ↦ rw q.0 (emptied (d.generation + 1)) ] where
        emptied : (g : ℕ) → plain.held (set s.slots d.slot (record { generation = g; content = None })) e ≡ None
        emptied g =
            let q = slot_tells s.slots d v there in let t : Slot X = record { generation = g; content = None } in
            ap (option_and_then (plain.held_in e)) (ap (slice_get (set s.slots d.slot t)) same ∙ set_here s.slots d.slot q.0 t q.1)
            ∙ by_content e t refl

module _ {X R : Type 0} (read : X → Option R) where
  -- what is held under an id that is read as a record
  pub content_of : (i : Image X) (d : Id) (r : R) → option_and_then read (held i d) ≡ Some r → (x : X) × (held i d ≡ Some x) × (read x ≡ Some r)
  content_of i d r e = elim (or_none (held i d)) [
    | inl n ↦ cc (ap (option_and_then read) n, e)
    | inr x ↦ (x.0, x.1, sym (ap (option_and_then read) x.1) ∙ e)
  ]

  -- where only one content is read as it
  module _ (make : R → X) (only_that : (t : X) (r : R) → read t ≡ Some r → t ≡ make r) (i : Image X) (d : Id) (r : R)
      (there : option_and_then read (held i d) ≡ Some r) where
    pub content_is : held i d ≡ Some (make r)
    content_is = let x = content_of i d r there in x.1 ∙ ap Some (only_that x.0 r x.2)

    pub set_done : (Same : Type 0) (j : Image X) (new : X) (o : Option X) → IfNone o ((held i d ≡ None) × Same)
        → IfSome o (λ was. (held i d ≡ Some was) × IsSet i j d new was) → IsSet i j d new (make r)
    set_done Same j new None none some = cc (none.0, content_is)
    set_done Same j new (Some was) none some = let same : was ≡ make r = cc (some.0, content_is) in subst (IsSet i j d new) same some.1

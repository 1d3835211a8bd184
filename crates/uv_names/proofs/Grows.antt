-- No slot goes back to an earlier generation.
use Rattle.uv_names.proofs.Names.{◌≡◌, ℕ, suc, zero, ◌≤◌, ◌==◌, List, [], ◌∷◌, ◌++◌, Option, Some, refl, subst, arith, option_and_then, slice_get, slice_set, Event, Id, Seen, Named, Slot, Slots, freed, held, id_of, next_id, taken_from, Program, arena_size, Content, State, Moves, next, cond_both, elements}
use Rattle.uv_alike.proofs.Kept.{StaysKept}
use Rattle.uv_alike.proofs.Walked.{IsKept, next_kept}

-- each slot is there still, at a generation that is as late or later
abbrev pub Grow : List (Slot Content) → List (Slot Content) → Type 0
Grow xs ys = (i : ℕ) (x : Slot Content) → slice_get xs i ≡ Some x → (y : Slot Content) × (slice_get ys i ≡ Some y) × (x.generation ≤ y.generation)

-- the slot of this number is at no later generation
abbrev AtMost : List (Slot Content) → ℕ → ℕ → Type 0
AtMost xs n generation = (x : Slot Content) → slice_get xs n ≡ Some x → x.generation ≤ generation

set_grow : (xs : List (Slot Content)) (n : ℕ) (new : Slot Content) → AtMost xs n new.generation → Grow xs (slice_set xs n new)
set_grow (a ∷ rest) zero new most zero x e = (new, refl, most x e)
set_grow (a ∷ rest) (suc n) new most (suc i) x e = set_grow rest n new most i x e
set_grow each e1 new most e4 x e = grind arith

push_grow : (xs ys : List (Slot Content)) → Grow xs (xs ++ ys)
push_grow (a ∷ rest) ys (suc i) x e = push_grow rest ys i x e
push_grow each ys e2 x e = grind arith

then_grow : (xs ys zs : List (Slot Content)) → Grow xs ys → Grow ys zs → Grow xs zs
then_grow xs ys zs one two i x e = grind arith

-- ---- what is held, made and freed

held_most : (slots : List (Slot Content)) (id : Id) (c : Content) → held slots id ≡ Some c → AtMost slots id.slot id.generation
held_most slots id c e x is = grind (arith, elements)

-- a free slot is taken at its own generation
next_most : (slots : List (Slot Content)) (n : ℕ) (id : Id) → option_and_then (λ slot. Some (id_of n slot)) (slice_get slots n) ≡ Some id →
    AtMost slots id.slot id.generation
next_most slots n id e x is = grind (arith, elements)

module _ (base : List (Slot Content)) where
  abbrev Grown : List Named → Slots Content → Type 0
  Grown ns a = Grow base a.slots

  set_grown : (slots : List (Slot Content)) (n : ℕ) (new : Slot Content) → AtMost slots n new.generation → Grow base slots →
      Grow base (slice_set slots n new)
  set_grown slots n new most h = then_grow base slots (slice_set slots n new) h (set_grow slots n new most)

  taken_grown : (free : List ℕ) (id : Id) (x : Content) (a : Slots Content) → next_id a.slots a.unused free ≡ Some id → Grow base a.slots →
      Grow base (taken_from free id x a).slots
  taken_grown [] id x a e h = then_grow base a.slots _ h (push_grow a.slots (record { generation = 0; content = Some x } ∷ []))
  taken_grown (n ∷ ns) id x a e h = set_grown a.slots id.slot _ (next_most a.slots n id e) h

  -- a slot that is freed goes on by a generation, or is retired at the last one
  freed_grown : (last : ℕ) (id : Id) (x : Content) (a : Slots Content) → held a.slots id ≡ Some x → Grow base a.slots →
      Grow base (freed last id a).slots
  freed_grown last id x a e h = cond_both (id.generation == last) _ _ (λ (b : Slots Content). Grow base b.slots)
      (λ at. set_grown a.slots id.slot _ (held_most a.slots id x e) h)
      (λ before. set_grown a.slots id.slot _ (λ y is. (let most = held_most a.slots id x e y is in omega (arith, most))) h)

  grown_kept : (p : Program) → IsKept p Grown
  grown_kept p = record {
    counted = λ ns a v c h. h;
    turned = λ ns a id x y holds h. set_grown a.slots id.slot _ (held_most a.slots id x holds) h;
    made = λ ns a v id x there h. taken_grown a.free id x a there h;
    freed = λ ns a id x holds h. freed_grown (arena_size p).last_generation id x a holds h;
  }

-- wherever a step leads
pub next_grown : (p : Program) (s t : State) (e : Event) (line : Option Seen) → next p s e ≡ Moves t line → Grow s.arena.slots t.arena.slots
next_grown p s t e line is =
    let base = s.arena.slots in
    subst (StaysKept (Grown base)) is (next_kept p (Grown base) (grown_kept base p) s e (λ i x there. (x, there, omega arith)))

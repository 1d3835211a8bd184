-- What is asked of a state for its names to be buried, each step keeps.
use Rattle.uv_slots.proofs.Names.{List, Option, Some, [], arith, length, refl, slice_set, suc, sym, true, zero, ℕ, ◌+◌, ◌∙◌, ◌∷◌, ◌≡◌, Event, Id, Seen, Moves, State, Slots, freed, held, next_free, next_id, taken, taken_from, Named, Program, arena_size, Content, ◌≤◌, ◌⊎◌, subst, inl, inr, elements, with_held, Calls, goes_on, state_of, fresh, Next, Refuses, next, times, buried, is_past, CanBury, StaysKept, IsKept}
use Rattle.uv_records.specs.Names as names
use Rattle.uv_model.specs.After.{after}
use Rattle.uv_slots.proofs.Buries.{named_buried, turned_past, made_past, freed_past, dead_gone}
use Rattle.uv_alike.proofs.Walked.{next_kept}

-- ---- the slots

-- what is asked of the slots
record AreFit (dead : ℕ) (a : Slots Content) : Type 0 where
  pub beyond : length a.slots + a.unused ≤ dead
  pub once : (n : ℕ) → times a.free n ≤ 1
  pub empty : (id : Id) (x : Content) → held a.slots id ≡ Some x → times a.free id.slot ≡ 0

turned_fit : (dead : ℕ) (a : Slots Content) (old : Id) (x y : Content) → held a.slots old ≡ Some x → AreFit dead a →
    AreFit dead (record a { slots = with_held a.slots old y })
turned_fit dead a old x y holds fit = record {
  beyond = (let most = fit.beyond in grind (arith, elements));
  once = fit.once;
  empty = λ id z now. (let none = fit.empty id z in let as_well = fit.empty old x holds in grind (arith, elements));
}

made_fit : (dead : ℕ) (a : Slots Content) (free : List ℕ) (new : Id) (x : Content) → a.free ≡ free → next_id a.slots a.unused free ≡ Some new →
    AreFit dead a → AreFit dead (taken_from free new x a)
made_fit dead a [] new x is there fit = grind (arith, elements)
made_fit dead a (n ∷ ns) new x is there fit = record {
  beyond = (let most = fit.beyond in grind (arith, elements));
  once = λ m. (let less = fit.once m in grind (arith, elements));
  empty = λ id z now. (let less = fit.once id.slot in let none = fit.empty id z in grind (arith, elements));
}

freed_fit : (dead last : ℕ) (a : Slots Content) (old : Id) (x : Content) → held a.slots old ≡ Some x → AreFit dead a → AreFit dead (freed last old a)
freed_fit dead last a old x holds fit = record {
  beyond = (let most = fit.beyond in grind (arith, elements));
  once = λ m. (let less = fit.once m in let none = fit.empty old x holds in grind (arith, elements));
  empty = λ id z now. (let none = fit.empty id z in grind (arith, elements));
}

-- ---- the names

-- what a name is bound to isn't to come
abbrev ArePast : List Named → Slots Content → Type 0
ArePast ns a = (v : ℕ) (id : Id) → (names.named ns v).id ≡ Some id → is_past a id ≡ true

counted_same : (ns : List Named) (v w : ℕ) (c : Calls) →
    (names.named (slice_set ns v (record (names.named ns v) { calls = c })) w).id ≡ (names.named ns w).id
counted_same [] v w c = refl
counted_same (x ∷ xs) zero zero c = refl
counted_same (x ∷ xs) zero (suc w) c = refl
counted_same (x ∷ xs) (suc v) zero c = refl
counted_same (x ∷ xs) (suc v) (suc w) c = counted_same xs v w c

-- a name that is bound to what is made, and the others
bound_either : (ns : List Named) (v w : ℕ) (new id : Id) →
    (names.named (slice_set ns v (record (names.named ns v) { id = Some new })) w).id ≡ Some id →
    (new ≡ id) ⊎ ((names.named ns w).id ≡ Some id)
bound_either (x ∷ xs) (suc v) (suc w) new id e = bound_either xs v w new id e
bound_either each e1 e2 new id e = grind arith

-- what was made just now isn't made again
new_past : (dead : ℕ) (a : Slots Content) (free : List ℕ) (new : Id) (x : Content) → a.free ≡ free → next_id a.slots a.unused free ≡ Some new →
    AreFit dead a → is_past (taken_from free new x a) new ≡ true
new_past dead a [] new x is there fit = grind (arith, elements)
new_past dead a (n ∷ ns) new x is there fit = let less = fit.once n in grind (arith, elements)

-- ---- what is asked of both

record IsFit (dead : ℕ) (ns : List Named) (a : Slots Content) : Type 0 where
  pub slots : AreFit dead a
  pub past : ArePast ns a

fit_kept : (p : Program) (dead : ℕ) → IsKept p (IsFit dead)
fit_kept p dead = record {
  counted = λ ns a v c fit. record { slots = fit.slots; past = λ w id bound. fit.past w id (sym (counted_same ns v w c) ∙ bound) };
  turned = λ ns a old x y holds fit. record {
    slots = turned_fit dead a old x y holds fit.slots;
    past = λ w id bound. turned_past a id old x y holds ∙ fit.past w id bound;
  };
  made = λ ns a v new x there fit. record { slots = made_fit dead a a.free new x refl there fit.slots; past = made ns a v new x there fit };
  freed = λ ns a old x holds fit.
      let last = (arena_size p).last_generation in
      record { slots = freed_fit dead last a old x holds fit.slots; past = λ w id bound. freed_past last a id old x holds (fit.past w id bound) };
}
  where
    made : (ns : List Named) (a : Slots Content) (v : ℕ) (new : Id) (x : Content) → next_free a ≡ Some new → IsFit dead ns a →
        ArePast (slice_set ns v (record (names.named ns v) { id = Some new })) (taken new x a)
    made ns a v new x there fit w id bound = by (bound_either ns v w new id bound)
      where
        by : (new ≡ id) ⊎ ((names.named ns w).id ≡ Some id) → is_past (taken new x a) id ≡ true
        by (inl same) = subst (λ (y : Id). is_past (taken new x a) y ≡ true) same (new_past dead a a.free new x refl there fit.slots)
        by (inr old) = made_past a a.free id new x refl there (fit.past w id old)

fit_of : (dead : ℕ) (s : State) → CanBury dead s → IsFit dead s.names s.arena
fit_of dead s can = record {
  slots = record { beyond = can.beyond; once = can.once; empty = can.empty };
  past = λ v. can.past (record { 0 = v });
}

can_by : (dead : ℕ) (s : State) → IsFit dead s.names s.arena → CanBury dead s
can_by dead s fit = record { beyond = fit.slots.beyond; once = fit.slots.once; empty = fit.slots.empty; past = λ v. fit.past v.0 }

pub next_can : (p : Program) (dead : ℕ) (s t : State) (e : Event) (line : Option Seen) → CanBury dead s → next p s e ≡ Moves t line → CanBury dead t
next_can p dead s t e line can is =
    can_by dead t (subst (StaysKept (IsFit dead)) is (next_kept p (IsFit dead) (fit_kept p dead) s e (fit_of dead s can)))

-- ---- the states that a script comes to

goes_on_can : (p : Program) (dead : ℕ) (s : State) (es : List Event) → CanBury dead s → CanBury dead (goes_on p s es)
goes_on_can p dead s [] can = can
goes_on_can p dead s (e ∷ es) can = goes_on_can p dead (state_of s (next p s e)) es (by (next p s e) refl)
  where
    by : (x : Next) → next p s e ≡ x → CanBury dead (state_of s x)
    by (Moves t line) is = next_can p dead s t e line can is
    by (Refuses why) is = can

pub after_can : (p : Program) (dead : ℕ) (es : List Event) → (arena_size p).slots ≤ dead → CanBury dead (after p es)
unfolding after
after_can p dead es beyond = goes_on_can p dead (fresh p) es (grind (arith, elements))

-- ---- with the names buried

pub buried_can : (dead : ℕ) (s : State) → CanBury dead s → CanBury dead (buried dead s)
buried_can dead s can = grind (arith, dead_gone, named_buried)

-- Names that forget in which slot that was which is gone.
use Rattle.uv_slots.proofs.Names.{if◌then◌else◌, Bool, List, None, Option, Some, [], ap, ap₂, arith, false, length, not, refl, suc, sym, true, ℕ, ◌&&◌, ◌+◌, ◌∙◌, ◌∷◌, ◌≡◌, Event, Id, Var, Seen, Moves, State, named, Slots, freed, held, next_id, taken_from, Named, Program, Content, subst, map, option_map, is_some, ◌≤◌, elements, with_held, Next, Refuses, next, dead_id, buried_id, buried_name, buried, is_past, CanBury, StaysKept, IsKept, state_map}
use Rattle.uv_records.specs.Names as names
use Rattle.uv_names.proofs.Rebound.{rebound_name, named_rebound, next_rebound, rebound}
use Rattle.uv_alike.proofs.Walked.{next_kept}

-- ---- what is gone stays so

-- nothing is held under an id, nor will be
abbrev pub IsGone : Id → Slots Content → Type 0
IsGone id a = (is_past a id ≡ true) × (held a.slots id ≡ None)

pub turned_past : (a : Slots Content) (id old : Id) (x y : Content) → held a.slots old ≡ Some x →
    is_past (record a { slots = with_held a.slots old y }) id ≡ is_past a id
turned_past a id old x y holds = grind (arith, elements)

turned_gone : (a : Slots Content) (id old : Id) (x y : Content) → held a.slots old ≡ Some x → held a.slots id ≡ None →
    held (with_held a.slots old y) id ≡ None
turned_gone a id old x y holds none = grind (arith, elements)

pub made_past : (a : Slots Content) (free : List ℕ) (id new : Id) (x : Content) → a.free ≡ free → next_id a.slots a.unused free ≡ Some new →
    is_past a id ≡ true → is_past (taken_from free new x a) id ≡ true
made_past a [] id new x is there past = grind (arith, elements)
made_past a (n ∷ ns) id new x is there past = grind (arith, elements)

made_gone : (a : Slots Content) (free : List ℕ) (id new : Id) (x : Content) → a.free ≡ free → next_id a.slots a.unused free ≡ Some new →
    is_past a id ≡ true → held a.slots id ≡ None → held (taken_from free new x a).slots id ≡ None
made_gone a [] id new x is there past none = grind (arith, elements)
made_gone a (n ∷ ns) id new x is there past none = grind (arith, elements)

pub freed_past : (last : ℕ) (a : Slots Content) (id old : Id) (x : Content) → held a.slots old ≡ Some x → is_past a id ≡ true →
    is_past (freed last old a) id ≡ true
freed_past last a id old x holds past = grind (arith, elements)

gone_kept : (p : Program) (id : Id) → IsKept p (λ ns a. IsGone id a)
gone_kept p id = record {
  counted = λ ns a v c gone. gone;
  turned = λ ns a old x y holds gone. (turned_past a id old x y holds ∙ gone.0, turned_gone a id old x y holds gone.1);
  made = λ ns a v new x there gone. (made_past a a.free id new x refl there gone.0, made_gone a a.free id new x refl there gone.0 gone.1);
  freed = grind (arith, freed_past, elements);
}

-- ---- what is gone, and is not to come, gets the one dead id

abbrev is_gone : Slots Content → Id → Bool
is_gone a id = is_past a id && not (is_some (held a.slots id))

abbrev gone_id : ℕ → Slots Content → Id → Id
gone_id dead a id = if is_gone a id then dead_id dead else id

pub dead_gone : (dead : ℕ) (a : Slots Content) → length a.slots + a.unused ≤ dead → IsGone (dead_id dead) a
dead_gone dead a beyond = grind (arith, elements)

-- ---- a step

-- where no name is bound to what is to come, these are the buried names
same_names : (f g : Id → Id) (ns : List Named) → ((n : ℕ) (id : Id) → (names.named ns n).id ≡ Some id → f id ≡ g id) →
    map (rebound_name f) ns ≡ map (rebound_name g) ns
same_names f g [] same = refl
same_names f g (x ∷ xs) same = ap₂ (λ (id : Option Id) (more : List Named). record x { id = id } ∷ more) (first x.id (same 0))
    (same_names f g xs (λ n. same (suc n)))
  where
    first : (o : Option Id) → ((id : Id) → o ≡ Some id → f id ≡ g id) → option_map f o ≡ option_map g o
    first o each = grind arith

gone_same : (dead : ℕ) (a : Slots Content) (id : Id) → is_past a id ≡ true → buried_id dead a.slots id ≡ gone_id dead a id
gone_same dead a id past = grind arith

-- names that were buried before are buried as the others are
again : (f g : Id → Id) (ns : List Named) → ((id : Id) → f (g id) ≡ f id) → map (rebound_name f) (map (rebound_name g) ns) ≡ map (rebound_name f) ns
again f g [] same = refl
again f g (x ∷ xs) same = grind (arith, (again f g xs same))

later_id : (p : Program) (dead : ℕ) (s t : State) (e : Event) (line : Option Seen) → length s.arena.slots + s.arena.unused ≤ dead →
    next p s e ≡ Moves t line → (id : Id) → buried_id dead t.arena.slots (gone_id dead s.arena id) ≡ buried_id dead t.arena.slots id
later_id p dead s t e line beyond is id = by (is_gone s.arena id) refl
  where
    stays_gone : (id : Id) → IsGone id s.arena → held t.arena.slots id ≡ None
    stays_gone id gone = (subst (StaysKept (λ ns a. IsGone id a)) is (next_kept p (λ ns a. IsGone id a) (gone_kept p id) s e gone)).1

    by : (b : Bool) → is_gone s.arena id ≡ b → buried_id dead t.arena.slots (if b then dead_id dead else id) ≡ buried_id dead t.arena.slots id
    by false still = refl
    by true gone =
        let dead_stays = stays_gone (dead_id dead) (dead_gone dead s.arena beyond) in
        let stays = stays_gone id (grind arith, grind arith) in
        grind arith

pub names_buried : (p : Program) (dead : ℕ) (s : State) (e : Event) → CanBury dead s →
    state_map (buried dead) (next p (buried dead s) e) ≡ state_map (buried dead) (next p s e)
names_buried p dead s e can =
    let g = gone_id dead s.arena in
    ap (λ (ns : List Named). state_map (buried dead) (next p (record s { names = ns }) e))
    (same_names (buried_id dead s.arena.slots) g s.names (λ n id bound. gone_same dead s.arena id (can.past (record { 0 = n }) id bound)))
    ∙ ap (state_map (buried dead)) (next_rebound g p s (grind (arith, dead_gone, elements)) e) ∙ by (next p s e) refl
  where
    by : (x : Next) → next p s e ≡ x → state_map (buried dead) (state_map (rebound (gone_id dead s.arena)) x) ≡ state_map (buried dead) x
    by (Refuses why) is = refl
    by (Moves t line) is = ap (λ (ns : List Named). Moves (record t { names = ns }) line)
        (again (buried_id dead t.arena.slots) (gone_id dead s.arena) t.names (later_id p dead s t e line can.beyond is))

pub alike_buried : (p : Program) (dead : ℕ) (s t : State) (e : Event) → CanBury dead s → CanBury dead t → buried dead s ≡ buried dead t →
    state_map (buried dead) (next p s e) ≡ state_map (buried dead) (next p t e)
alike_buried p dead s t e can can_too same = sym (names_buried p dead s e can) ∙ ap (λ (u : State). state_map (buried dead) (next p u e)) same
    ∙ names_buried p dead t e can_too

-- ---- what buried names tell

-- the names of a buried state
pub named_buried : (dead : ℕ) (s : State) (v : Var) → named (buried dead s) v ≡ buried_name dead s.arena.slots (named s v)
named_buried dead s v = named_rebound (buried_id dead s.arena.slots) s v

-- What holds of a settled state.
use Rattle.uv_tale.proofs.Names.{◌≡◌, ◌++◌, List, [], ◌∷◌, Option, Some, None, ℕ, refl, ap, sym, arith, length, Id, Named, Slot, held, Content, Program, arena_size, State, ◌≤◌, subst, map, option_map, option_to_list, slice_get_past, IsTimed, IsYoung, slot_bound, slots_bound, named_order, buried_by, buried_id, buried_name, buried, Fits, IsWhole, tidy_whole, IsRegular, arranged}
use Rattle.uv_tale.proofs.Aside.{aside_timed, aside_young}
use Rattle.uv_tale.proofs.Keeping.{arranged_young, arranged_timed}

-- the number beyond all slots
abbrev pub dead_of : Program → ℕ
dead_of p = (arena_size p).slots

-- the order in which a state's slots stand, as it is settled
abbrev pub order_in : Program → State → List ℕ
order_in p s = named_order (buried (dead_of p) s)

-- its slots stand in the order of names, of which none is bound to what is gone
abbrev pub settled : Program → State → State
settled p s = arranged (order_in p s) (buried (dead_of p) s)

-- it is that of the state itself
module _ (dead : ℕ) (slots : List (Slot Content)) (beyond : length slots ≤ dead) where
  slot_buried : (o : Option Id) → slot_bound slots (option_map (buried_id dead slots) o) ≡ slot_bound slots o
  slot_buried None = refl
  slot_buried (Some id) = by (held slots id) refl where
    by : (c : Option Content) → held slots id ≡ c →
        slot_bound slots (Some (buried_by dead id c)) ≡ option_map (λ (x : Content). id.slot) c
    by c e = grind (arith, slice_get_past)

  slots_buried : (ns : List Named) → slots_bound (map (buried_name dead slots) ns) slots ≡ slots_bound ns slots
  slots_buried [] = refl
  slots_buried (x ∷ xs) = λ i. option_to_list (slot_buried x.id i) ++ slots_buried xs i

pub order_stays : (p : Program) (s : State) → IsRegular p s → order_in p s ≡ named_order s
order_stays p s regular = ap (λ (o : List ℕ). o ++ s.arena.free) (slots_buried (dead_of p) s.arena.slots (grind arith) s.names)

pub whole_in : (p : Program) (s : State) → IsRegular p s → IsWhole (order_in p s) s.arena.slots
whole_in p s regular = subst (λ (o : List ℕ). IsWhole o s.arena.slots) (sym (order_stays p s regular)) (tidy_whole s regular.tidy)

pub fits_in : (p : Program) (s : State) → IsRegular p s → Fits (order_in p s) s.arena.slots
fits_in p s regular =
    let whole = whole_in p s regular in
    let same = whole.length in
    record { order = whole.order; within = omega (arith, same) }

pub settled_timed : (p : Program) (s : State) → IsRegular p s → IsTimed p (settled p s)
settled_timed p s regular =
    let u = buried (dead_of p) s in
    arranged_timed (order_in p s) u (fits_in p s regular) p (aside_timed p s u regular.timed)

pub settled_young : (p : Program) (s : State) → IsRegular p s → IsYoung p (settled p s)
settled_young p s regular =
    let u = buried (dead_of p) s in
    arranged_young (order_in p s) u (fits_in p s regular) p (aside_young p s u regular.young)

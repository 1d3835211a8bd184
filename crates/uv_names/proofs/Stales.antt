-- Names that forget the earlier generations of their slots.
use Rattle.uv_names.proofs.Names.{◌≡◌, List, [], ◌∷◌, Option, refl, ap, ap₂, sym, ◌∙◌, arith, option_and_then, map, option_map, slice_get_past, Event, Id, Named, Slot, held, held_in, Program, Content, State, live_id, Next, Moves, Refuses, next}
use Rattle.uv_alike.specs.Changed.{state_map}
use Rattle.uv_names.specs.Stale.{staled_by, staled_id, staled_name, staled}
use Rattle.uv_names.proofs.Grows.{Grow, next_grown}
use Rattle.uv_names.proofs.Rebound.{HidesIds, next_rebound, rebound}

-- ---- no step can tell

held_alike : (id : Id) (o : Option (Slot Content)) → option_and_then (held_in (staled_by id o)) o ≡ option_and_then (held_in id) o
held_alike id o = grind arith

slot_stays : (id : Id) (o : Option (Slot Content)) → (staled_by id o).slot ≡ id.slot
slot_stays id o = grind arith

pub held_same : (slots : List (Slot Content)) (id : Id) → held slots (staled_id slots id) ≡ held slots id
held_same slots id = simp (slot_stays, held_alike)

live_same : (s : State) (o : Option Id) → live_id s (option_map (staled_id s.arena.slots) o) ≡ live_id s o
live_same s o = grind arith

hides : (s : State) → HidesIds (staled_id s.arena.slots) s
hides s = grind (arith, live_same, slice_get_past)

-- ---- staled again

again : (xs ys : List (Slot Content)) → Grow xs ys → (ns : List Named) → map (staled_name ys) (map (staled_name xs) ns) ≡ map (staled_name ys) ns
again xs ys grow [] = refl
again xs ys grow (n ∷ ns) = ap₂ (λ id more. record n { id = id } ∷ more) (grind arith) (again xs ys grow ns)

staled_again : (p : Program) (s : State) (e : Event) (x : Next) → next p s e ≡ x →
    state_map staled (state_map (rebound (staled_id s.arena.slots)) x) ≡ state_map staled x
staled_again p s e (Refuses why) is = refl
staled_again p s e (Moves u line) is =
    ap (λ names. Moves (record u { names = names }) line) (again s.arena.slots u.arena.slots (next_grown p s u e line is) u.names)

pub names_staled : (p : Program) (s : State) (e : Event) → state_map staled (next p (staled s) e) ≡ state_map staled (next p s e)
names_staled p s e = ap (state_map staled) (next_rebound (staled_id s.arena.slots) p s (hides s) e) ∙ staled_again p s e (next p s e) refl

pub alike_by_names : (p : Program) (s t : State) (e : Event) → staled s ≡ staled t → state_map staled (next p s e) ≡ state_map staled (next p t e)
alike_by_names p s t e same = sym (names_staled p s e) ∙ ap (λ u. state_map staled (next p u e)) same ∙ names_staled p t e

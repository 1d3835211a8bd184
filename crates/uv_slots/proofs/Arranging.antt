-- Slots in another order are slots that are named anew: the loop goes on alike.
use Rattle.uv_slots.proofs.Names.{◌≡◌, ℕ, zero, suc, List, [], ◌∷◌, Bool, Option, Some, None, refl, ap, sym, option_and_then, ◌==◌, ◌&&◌, Id, Event, Slot, Slots, Content, Program, State, held, held_in, id_of, next_id, taken_from, freed, map, option_map, next_unused, next, place_of, arranged_slots, arranged_id, arranged, in_order, relabeled_arena, next_map, relabeled_line}
use Rattle.uv_shift.proofs.Cases.{if_shift}
use Rattle.uv_slots.proofs.Orders.{Fits, same_place, place_behind, get_arranged, set_arranged, push_arranged, length_arranged, any_arranged}
use Rattle.uv_slots.proofs.Relabeling.{next_relabeled}

pub held_arranged : (o : List ℕ) (slots : List (Slot Content)) (id : Id) → Fits o slots →
    held (arranged_slots o slots) (arranged_id o id) ≡ held slots id
held_arranged o slots id fits = ap (option_and_then (held_in id)) (get_arranged o slots id.slot fits)

-- ---- slots taken and freed

id_at : (o : List ℕ) (n : ℕ) (x : Option (Slot Content)) →
    option_and_then (λ (slot : Slot Content). Some (id_of (place_of o n) slot)) x
    ≡ option_map (arranged_id o) (option_and_then (λ (slot : Slot Content). Some (id_of n slot)) x)
id_at o n None = refl
id_at o n (Some slot) = refl

unused_at : (o : List ℕ) (used unused : ℕ) → place_of o used ≡ used → next_unused used unused ≡ option_map (arranged_id o) (next_unused used unused)
unused_at o used zero same = refl
unused_at o used (suc unused) same = ap (λ (n : ℕ). Some (record { slot = n; generation = 0 })) (sym same)

pub next_id_arranged : (o : List ℕ) (slots : List (Slot Content)) (unused : ℕ) (free : List ℕ) → Fits o slots →
    next_id (arranged_slots o slots) unused (map (place_of o) free) ≡ option_map (arranged_id o) (next_id slots unused free)
next_id_arranged o slots unused [] fits = search (length_arranged, unused_at, place_behind)
next_id_arranged o slots unused (n ∷ ns) fits = simp (get_arranged, id_at)

pub taken_from_arranged : (o : List ℕ) (free : List ℕ) (id : Id) (x : Content) (a : Slots Content) → Fits o a.slots →
    taken_from (map (place_of o) free) (arranged_id o id) x (relabeled_arena (in_order o) a) ≡ relabeled_arena (in_order o) (taken_from free id x a)
taken_from_arranged o [] id x a fits = simp push_arranged
taken_from_arranged o (n ∷ ns) id x a fits = simp set_arranged

freed_arranged : (o : List ℕ) (last : ℕ) (id : Id) (a : Slots Content) → Fits o a.slots →
    freed last (arranged_id o id) (relabeled_arena (in_order o) a) ≡ relabeled_arena (in_order o) (freed last id a)
freed_arranged o last id a fits = if_shift (relabeled_arena (in_order o)) (id.generation == last) (id.generation == last) _ _ _ _ refl
    (search set_arranged)
    (search set_arranged)

-- ---- a step

pub next_arranged : (p : Program) (o : List ℕ) (s : State) (e : Event) → Fits o s.arena.slots →
    next p (arranged o s) e ≡ next_map (arranged o) (relabeled_line (in_order o)) (next p s e)
next_arranged p o s e fits = next_relabeled (in_order o) p s e (record {
  same = λ a b. ap (λ (same : Bool). same && (a.generation == b.generation)) (same_place o a.slot b.slot fits.order);
  holds = λ id. held_arranged o s.arena.slots id fits;
  turns = λ id x. set_arranged o s.arena.slots id.slot _ fits;
  any = λ test. any_arranged (λ (slot : Slot Content). test slot.content) o s.arena.slots fits;
  finds = next_id_arranged o s.arena.slots s.arena.unused s.arena.free fits;
  takes = λ id x. taken_from_arranged o s.arena.free id x s.arena fits;
  frees = λ id x holds. freed_arranged o _ id s.arena fits;
})

-- The youngest form of a state, and that of the state once its slots were freed more often.
use Rattle.uv_generations.proofs.Names.{◌≡◌, ℕ, zero, suc, ◌+◌, List, [], ◌∷◌, Option, Some, None, slice_get, refl, ap, ◌∙◌, arith, Id, Slot, Content, Named, State, Program, map, option_map, ◌-◌, ◌≤◌, run_ids, Renaming, renamed, Frees, freed_more, more, freed_less, least_bound, least_of, surplus, youngest, IsInSlot, IsYoung, rename, renaming, relabeled_named}
use Rattle.uv_records.specs.declared.lists.WatcherKind.TheVariants as watcher
use Rattle.uv_slots.proofs.Named.{is_there}
use Rattle.uv_generations.proofs.Slots.{by_frees, get_renamed}
use Rattle.uv_generations.proofs.Twice.{both, twice, has_front, has_behind, ids_same, walk_same, running_same, timers_same, slots_same}

-- ---- none of its ids is younger than its surplus

bound_least : (slot : ℕ) (ns : List Named) (least : ℕ) → least_bound slot ns least ≤ least
bound_least slot [] least = omega arith
bound_least slot (n ∷ ns) least = grind (arith, (bound_least slot ns least))

-- a name stands among the names
named_least : (ns : List Named) (i : ℕ) (n : Named) (id : Id) (least : ℕ) → slice_get ns i ≡ Some n → n.id ≡ Some id →
    least_bound id.slot ns least ≤ id.generation
named_least (x ∷ xs) (suc i) n id least e f = grind (arith, (named_least xs i n id least e f))
named_least each e1 n id least e f = grind arith

-- ---- what is made younger, and older again

abbrev again : Frees → Renaming
again k = both (freed_more k) (freed_less k)

back_again : (g n : ℕ) → n ≤ g → g - n + n ≡ g
back_again g n h = omega arith

id_again : (k : Frees) (id : Id) → k id.slot ≤ id.generation → rename (again k) id ≡ id
id_again k id h = ap (λ (g : ℕ). record { slot = id.slot; generation = g }) (back_again id.generation (k id.slot) h)

names_same : (f : Renaming) (ns : List Named) →
    ((i : ℕ) (n : Named) (id : Id) → slice_get ns i ≡ Some n → n.id ≡ Some id → rename f id ≡ id) → map (relabeled_named (renaming f)) ns ≡ ns
names_same f [] h = refl
names_same f (n ∷ ns) h =
    let first = by n.id refl in
    let rest = names_same f ns (λ i m id e k. h (suc i) m id e k) in
    λ i. record n { id = first i } ∷ rest i where
      by : (o : Option Id) → n.id ≡ o → option_map (rename f) o ≡ o
      by None e = refl
      by (Some id) e = ap Some (h zero n id refl e)

-- the youngest form, whose slots were freed more often by as much as those of the state itself, is the state
pub youngest_more : (p : Program) (s : State) → IsYoung p s → more (surplus s) (youngest s) ≡ s
youngest_more p s h =
    let f = again (surplus s) in
    let each : (id : Id) → IsInSlot s id → rename f id ≡ id = λ id k. id_again (surplus s) id (grind (arith, is_there, bound_least)) in
    let names = names_same f s.names (λ i n id e k. id_again (surplus s) id (grind (arith, named_least))) in
    let slots = slots_same f s.arena.slots (λ n slot e. back_again slot.generation (surplus s n) (grind (arith, bound_least))) in
    let timers = timers_same f s.timers (λ due id k. each id (h.timers due id k)) in
    let ready = ids_same f s.ready (λ id k. each id (h.ready id k)) in
    let idle = walk_same f s.watchers.idle (λ id k. each id (h.watchers watcher.Idle id k)) in
    let prepare = walk_same f s.watchers.prepare (λ id k. each id (h.watchers watcher.Prepare id k)) in
    let check = walk_same f s.watchers.check (λ id k. each id (h.watchers watcher.Check id k)) in
    let async = walk_same f s.watchers.async (λ id k. each id (h.watchers watcher.Async id k)) in
    let closing = walk_same f s.closing (λ id k. each id (h.closing id k)) in
    let waiting = ids_same f s.waiting (λ id k. each id (h.opened id (has_front s.waiting (run_ids s.running) id k))) in
    let running = running_same f s.running (λ id k. each id (h.opened id (has_behind s.waiting (run_ids s.running) id k))) in
    let done = walk_same f s.done (λ id k. each id (h.done id k)) in
    grind (arith, twice)

-- ---- however often slots were freed more, the youngest form is the same

bound_more : (k : Frees) (slot : ℕ) (ns : List Named) (least : ℕ) →
    least_bound slot (map (relabeled_named (by_frees k)) ns) (least + k slot) ≡ least_bound slot ns least + k slot
bound_more k slot [] least = refl
bound_more k slot (n ∷ ns) least = grind (arith, (bound_more k slot ns least))

base_more : (k : Frees) (s : State) (slot : ℕ) → (slice_get s.arena.slots slot ≡ None → k slot ≡ 0)
    → surplus (more k s) slot ≡ surplus s slot + k slot
base_more k s slot unused = ap (least_of slot (map (relabeled_named (by_frees k)) s.names)) (get_renamed k s.arena.slots slot)
    ∙ by (slice_get s.arena.slots slot) refl where
      by : (o : Option (Slot Content)) → slice_get s.arena.slots slot ≡ o →
          least_of slot (map (relabeled_named (by_frees k)) s.names)
          (option_map (λ (it : Slot Content). record it { generation = it.generation + k slot }) o)
          ≡ least_of slot s.names o + k slot
      by o e = grind (arith, (bound_more k slot s.names))

pub youngest_same : (k : Frees) (s : State) → ((slot : ℕ) → slice_get s.arena.slots slot ≡ None → k slot ≡ 0) → youngest (more k s) ≡ youngest s
youngest_same k s unused =
    let b = surplus (more k s) in
    let each : (slot g : ℕ) → g + k slot - b slot ≡ g - surplus s slot = λ slot g. (let e = base_more k s slot (unused slot) in omega (arith, e)) in
    let same : both (freed_less b) (freed_more k) ≡ freed_less (surplus s) = λ i slot g. each slot g i in
    twice (freed_less b) (freed_more k) s ∙ ap (λ (r : Renaming). renamed r s) same

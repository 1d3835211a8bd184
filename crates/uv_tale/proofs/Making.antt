-- The slots, the names and the lists of a state's form by names are those that its tale makes.
use Rattle.uv_tale.proofs.Names.{◌≡◌, ℕ, suc, ◌+◌, ◌-◌, ◌++◌, ◌<◌, ◌≤◌, List, [], ◌∷◌, length, drop, replicate, true, Option, Some, None, refl, ap, sym, ◌∙◌, arith, length-append, slice_get, inl, inr, map, option_map, or_right, append-nil, slice_get-map, slice_get_past, Due, Id, Named, Slot, held, Walk, Program, arena_size, Content, State, named, same_id, has_id, run_ids, Has, By, base, earlier, Retiming, retimed_entry, retimed_slot, Renaming, renamed_slots, IsInSlot, freed_less, least_bound, least_of, or_bound, surplus, Frees, capped, capped_name, staled, staled_by, staled_id, staled_name, arranged, arranged_id, arranged_slots, picked, place_of, times, buried, buried_by, buried_id, buried_name, dead_id, named_order, slots_bound, vacancies, Fits, get_arranged, length_arranged, place_behind, IsWhole, tidy_whole, ordered, map_ordered, IsRegular, Told, as_id, bound_by, bound_to, name_at, names_at, number_of, run_names, runs_at, told_name, walk_at, name_in, in_order, relabeled_entry, relabeled_named, relabeled_walk, rename, renaming, IsThere, is_there, named_there, has_first, has_front, has_behind}
use Rattle.uv_shift.specs.Earliest.{back}
use Rattle.uv_tale.proofs.Made.{bound_told, empty_slot, id_told, list_told, named_entry, names_told, numbers_from, place_id, place_told, slots_held, timer_told, walk_told}
use Rattle.uv_tale.proofs.Places.{all_picked, at_place, clean, free_placed, held_length, placed, told}

-- ---- lists of any kind

drop_all : {X : Type 0} (xs : List X) → drop (length xs) xs ≡ []
drop_all [] = refl
drop_all (x ∷ xs) = drop_all xs

get_behind : {X : Type 0} (xs ys : List X) (i : ℕ) → slice_get (xs ++ ys) (length xs + i) ≡ slice_get ys i
get_behind [] ys i = ap (slice_get ys) (omega arith)
get_behind (x ∷ xs) ys i = grind (arith, (get_behind xs ys i))

-- slots whose generations all become 0
zero_slots : (d : By) (r : Renaming) (xs : List (Slot Content)) →
    ((m : ℕ) (slot : Slot Content) → slice_get xs m ≡ Some slot → r m slot.generation ≡ 0) →
    renamed_slots r (map (retimed_slot (earlier d)) xs) ≡ map (clean d) xs
zero_slots d r [] h = refl
zero_slots d r (x ∷ xs) h = grind (arith, (zero_slots d (λ m. r (suc m)) xs (λ m. h (suc m))))

vacant_once : (o : Option (Slot Content)) (n : ℕ) → n ≡ vacancies o → 0 < n → vacancies o ≡ 1
vacant_once o n e l = grind arith

module _ (p : Program) (n : ℕ) (s : State) (regular : IsRegular p s) where
  abbrev pub dead : ℕ
  dead = (arena_size p).slots

  -- by how much it is later than its earliest form
  abbrev pub d : By
  d = base s

  abbrev pub order : List ℕ
  order = named_order s

  -- in the order of its names, with what is gone forgotten
  abbrev pub settled_by : State
  settled_by = capped n (staled (arranged order (buried dead s)))

  abbrev now : List (Slot Content)
  now = arranged_slots order s.arena.slots

  abbrev pub frees : Frees
  frees = surplus (back d settled_by)

  abbrev pub tells : List Told
  tells = told d n s.arena.slots s.names

  whole : IsWhole order s.arena.slots
  whole = tidy_whole s regular.tidy

  fits : Fits order s.arena.slots
  fits = let l = whole.length in record { order = whole.order; within = omega (arith, l) }

  -- ---- what is gone

  beyond : length s.arena.slots ≤ dead
  beyond = let l = regular.buries.beyond in omega (arith, l)

  dead_stays : place_of order dead ≡ dead
  dead_stays = let l = whole.length in let m = beyond in place_behind order dead whole.order (omega (arith, l, m))

  none_dead : slice_get now dead ≡ None
  none_dead = let l = length_arranged order s.arena.slots fits in let m = beyond in slice_get_past now dead (omega (arith, l, m))

  -- ---- the id of a name

  abbrev new_id : Id → Id
  new_id id = staled_id now (arranged_id order (buried_id dead s.arena.slots id))

  gone_id : (id : Id) → held s.arena.slots id ≡ None → new_id id ≡ dead_id dead
  gone_id id e = ap (λ (c : Option Content). staled_id now (arranged_id order (buried_by dead id c))) e
      ∙ ap (λ (m : ℕ). staled_id now (record { slot = m; generation = 0 })) dead_stays
      ∙ ap (staled_by (dead_id dead)) none_dead

  there_now : (id : Id) (x : Content) (k : IsThere s.arena.slots id x) → slice_get now (place_of order id.slot) ≡ Some k.slot
  there_now id x k = get_arranged order s.arena.slots id.slot fits ∙ k.there

  kept_by : (id : Id) (slot : Slot Content) → slot.generation ≡ id.generation → staled_by id (Some slot) ≡ id
  kept_by id slot e = grind arith

  kept_id : (id : Id) (x : Content) → held s.arena.slots id ≡ Some x → new_id id ≡ arranged_id order id
  kept_id id x e =
      let k = is_there s.arena.slots id x e in
      ap (λ (c : Option Content). staled_id now (arranged_id order (buried_by dead id c))) e
      ∙ ap (staled_by (arranged_id order id)) (there_now id x k)
      ∙ kept_by (arranged_id order id) k.slot k.generation

  -- ---- no name is bound to an earlier generation of a slot

  abbrev settled_names : List Named → List Named
  settled_names ns = map (capped_name n) (map (staled_name now) (map (relabeled_named (in_order order)) (map (buried_name dead s.arena.slots) ns)))

  no_less : (o : Option Id) (m : ℕ) (slot : Slot Content) → slice_get now m ≡ Some slot →
      or_bound m (option_map (staled_id now) (option_map (arranged_id order) (option_map (buried_id dead s.arena.slots) o))) slot.generation
      ≡ slot.generation
  no_less None m slot e = refl
  no_less (Some id) m slot e = by (held s.arena.slots id) refl where
    by : (c : Option Content) → held s.arena.slots id ≡ c → or_bound m (Some (new_id id)) slot.generation ≡ slot.generation
    by None f = ap (λ (i : Id). or_bound m (Some i) slot.generation) (gone_id id f) ∙ (let l = none_dead in grind arith)
    by (Some x) f =
        let k = is_there s.arena.slots id x f in
        let l = there_now id x k in
        ap (λ (i : Id). or_bound m (Some i) slot.generation) (kept_id id x f) ∙ (let g = k.generation in grind arith)

  none_less : (ns : List Named) (m : ℕ) (slot : Slot Content) → slice_get now m ≡ Some slot →
      least_bound m (settled_names ns) slot.generation ≡ slot.generation
  none_less [] m slot e = refl
  none_less (x ∷ xs) m slot e =
      let id = option_map (staled_id now) (option_map (arranged_id order) (option_map (buried_id dead s.arena.slots) x.id)) in
      ap (or_bound m id) (none_less xs m slot e) ∙ no_less x.id m slot e

  -- so each slot loses all its generations in the youngest form
  frees_all : (m : ℕ) (slot : Slot Content) → slice_get now m ≡ Some slot → frees m ≡ slot.generation
  frees_all m slot e =
      ap (least_of m (settled_names s.names)) (slice_get-map (retimed_slot (earlier d)) now m ∙ ap (option_map (retimed_slot (earlier d))) e)
      ∙ none_less s.names m slot e

  zeroed : (m : ℕ) (slot : Slot Content) → slice_get now m ≡ Some slot → freed_less frees m slot.generation ≡ 0
  zeroed m slot e = let l = frees_all m slot e in omega (arith, l)

  abbrev form_id : Id → Id
  form_id id = rename (freed_less frees) (arranged_id order id)

  held_id : (id : Id) (x : Content) → held s.arena.slots id ≡ Some x → form_id id ≡ as_id (place_of order id.slot)
  held_id id x e =
      let k = is_there s.arena.slots id x e in
      let l = frees_all (place_of order id.slot) k.slot (there_now id x k) in
      let m = k.generation in
      let z : id.generation - frees (place_of order id.slot) ≡ 0 = omega (arith, l, m) in
      ap (λ (g : ℕ). record { slot = place_of order id.slot; generation = g }) z

  -- ---- its names

  -- the id of what a name holds has the place that is told of the name
  bound_id : (v : ℕ) (m : Named) (id : Id) (x : Content) → slice_get s.names v ≡ Some m → m.id ≡ Some id →
      held s.arena.slots id ≡ Some x → form_id id ≡ id_told tells v
  bound_id v m id x at is e =
      let stands = at_place d n s.arena.slots s.names s.arena.free v m id x at is e in
      held_id id x e ∙ ap as_id (placed order (place_told tells v) id.slot whole.order stands)

  name_id : (v : ℕ) (m : Named) (o : Option Id) → slice_get s.names v ≡ Some m → m.id ≡ o →
      option_map (rename (freed_less frees))
      (option_map (staled_id now) (option_map (arranged_id order) (option_map (buried_id dead s.arena.slots) o)))
      ≡ bound_told dead (id_told tells v) (bound_to d s.arena.slots o)
  name_id v m None at is = refl
  name_id v m (Some id) at is = by (held s.arena.slots id) refl where
    by : (c : Option Content) → held s.arena.slots id ≡ c →
        Some (rename (freed_less frees) (new_id id)) ≡ bound_told dead (id_told tells v) (bound_by d c)
    by None e =
        let z : 0 - frees dead ≡ 0 = omega arith in
        ap (λ (i : Id). Some (rename (freed_less frees) i)) (gone_id id e) ∙ ap (λ (g : ℕ). Some (record { slot = dead; generation = g })) z
    by (Some x) e = ap (λ (i : Id). Some (rename (freed_less frees) i)) (kept_id id x e) ∙ ap Some (bound_id v m id x at is e)

  names_from : (v : ℕ) (ns : List Named) → ((i : ℕ) → slice_get s.names (v + i) ≡ slice_get ns i) →
      map (relabeled_named (renaming (freed_less frees))) (settled_names ns) ≡ names_told dead tells v (told d n s.arena.slots ns)
  names_from v [] h = refl
  names_from v (x ∷ xs) h =
      let here : slice_get s.names v ≡ Some x = ap (slice_get s.names) (let e : v ≡ v + 0 = omega arith in e) ∙ h 0 in
      let rest = names_from (suc v) xs (λ i. ap (slice_get s.names) (let e : suc v + i ≡ v + suc i = omega arith in e) ∙ h (suc i)) in
      let first = name_id v x x.id here refl in
      λ i. record { id = first i; calls = (told_name d n s.arena.slots x).calls } ∷ rest i

  pub form_names : map (relabeled_named (renaming (freed_less frees))) settled_by.names ≡ names_told dead tells 0 tells
  form_names = names_from 0 s.names (λ i. ap (slice_get s.names) (let e : 0 + i ≡ i = omega arith in e))

  -- ---- its slots

  -- as many are free as no name holds
  free_length : length s.arena.free ≡ length s.arena.slots - length (slots_held tells)
  free_length =
      let l = whole.length in
      let m = length-append (slots_bound s.names s.arena.slots) s.arena.free in
      let k = held_length d n s.arena.slots s.names in
      omega (arith, l, m, k)

  empty : (m : ℕ) → 0 < times s.arena.free m → vacancies (slice_get s.arena.slots m) ≡ 1
  empty m l = vacant_once (slice_get s.arena.slots m) (times s.arena.free m) (regular.tidy.free m) l

  all_now : now ≡ picked order s.arena.slots
  all_now = ap (λ (m : ℕ). picked order s.arena.slots ++ drop m s.arena.slots) whole.length
      ∙ ap (λ (xs : List (Slot Content)). picked order s.arena.slots ++ xs) (drop_all s.arena.slots)
      ∙ append-nil (picked order s.arena.slots)

  pub form_slots : renamed_slots (freed_less frees) (map (retimed_slot (earlier d)) now)
      ≡ slots_held tells ++ replicate (length s.arena.slots - length (slots_held tells)) empty_slot
  form_slots = zero_slots d (freed_less frees) now zeroed
      ∙ ap (map (clean d)) all_now
      ∙ all_picked d n s.arena.slots s.names s.arena.free empty
      ∙ ap (λ (m : ℕ). slots_held tells ++ replicate m empty_slot) free_length

  pub form_free : map (place_of order) s.arena.free
      ≡ numbers_from (length (slots_held tells)) (length s.arena.slots - length (slots_held tells))
  form_free =
      free_placed order s.arena.free (length (slots_bound s.names s.arena.slots)) whole.order
      (λ i m e. get_behind (slots_bound s.names s.arena.slots) s.arena.free i ∙ e)
      ∙ (λ i. numbers_from (held_length d n s.arena.slots s.names i) (free_length i))

  -- ---- its lists

  -- so has that of whoever stands on a list
  listed_id : (id : Id) → IsInSlot s id → form_id id ≡ id_told tells (name_at s.arena.slots id)
  listed_id id k =
      let is = regular.tidy.bound id k.its k.holds in
      bound_id (name_in k.its).0 (named s (name_in k.its)) id k.its (named_there (slice_get s.names (name_in k.its).0) id is) is k.holds
      ∙ ap (λ (c : Option Content). id_told tells (number_of c)) (sym k.holds)

  pub form_list : (ids : List Id) → ((id : Id) → has_id ids id ≡ true → IsInSlot s id) →
      map (rename (freed_less frees)) (map (arranged_id order) ids) ≡ list_told tells (names_at s.arena.slots ids)
  form_list [] h = refl
  form_list (x ∷ xs) h =
      let first = listed_id x (h x (has_first x xs)) in
      let rest = form_list xs (λ id e. h id (or_right (same_id x id) (has_id xs id) e)) in
      λ i. first i ∷ rest i

  pub form_walk : (w : Walk Id) → ((id : Id) → has_id (w.list ++ w.yet) id ≡ true → IsInSlot s id) →
      relabeled_walk (renaming (freed_less frees)) (relabeled_walk (in_order order) w) ≡ walk_told tells (walk_at s.arena.slots w)
  form_walk w h =
      let one = form_list w.list (λ id e. h id (has_front w.list w.yet id e)) in
      let two = form_list w.yet (λ id e. h id (has_behind w.list w.yet id e)) in
      λ i. record { list = one i; yet = two i }

  pub form_runs : (running : List (Option Id)) → ((id : Id) → has_id (run_ids running) id ≡ true → IsInSlot s id) →
      map (option_map (rename (freed_less frees))) (map (option_map (arranged_id order)) running)
      ≡ map (option_map (place_id tells)) (run_names s.arena.slots running)
  form_runs [] h = refl
  form_runs (None ∷ running) h = ap (λ (xs : List (Option Id)). None ∷ xs) (form_runs running h)
  form_runs (Some x ∷ running) h =
      let first = listed_id x (h x (has_first x (run_ids running))) in
      let rest = form_runs running (λ id e. h id (or_right (same_id x id) (has_id (run_ids running) id) e)) in
      λ i. Some (first i) ∷ rest i

  pub form_running : (running : List (Option Id)) → ((id : Id) → has_id (run_ids running) id ≡ true → IsInSlot s id) →
      ordered (map (option_map (rename (freed_less frees))) (map (option_map (arranged_id order)) running))
      ≡ ordered (map (option_map (place_id tells)) (runs_at s.arena.slots running))
  form_running running h = ap ordered (form_runs running h)
      ∙ sym (map_ordered (option_map (place_id tells)) (run_names s.arena.slots running))

  pub form_timers : (r : Retiming) (ts : List (Due × Id)) → ((due : Due) (id : Id) → Has ts due id → IsInSlot s id) →
      map (relabeled_entry (renaming (freed_less frees))) (map (retimed_entry r) (map (relabeled_entry (in_order order)) ts))
      ≡ map (timer_told tells) (map (named_entry s.arena.slots) (map (retimed_entry r) ts))
  form_timers r [] h = refl
  form_timers r (t ∷ ts) h =
      let first = listed_id t.1 (h t.0 t.1 (inl (refl, refl))) in
      let rest = form_timers r ts (λ due id k. h due id (inr k)) in
      λ i. ((retimed_entry r t).0, first i) ∷ rest i

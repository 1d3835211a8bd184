-- What becomes of a state that is renamed twice, and where no id becomes another.
use Rattle.uv_generations.proofs.Names.{◌≡◌, ℕ, suc, List, [], ◌∷◌, ◌++◌, true, Option, Some, None, slice_get, refl, ap, ap₂, Id, Slot, Content, Named, State, Walk, arith, inl, inr, map, option_map, has_id, run_ids, Has, Renaming, rename, renamed_slots, renamed, renaming, relabeled_entry, relabeled_named, relabeled_walk, Due}
use Rattle.std.proofs.lemmas.Simd.{map-map}

-- ---- twice

abbrev pub both : Renaming → Renaming → Renaming
both f g = λ slot generation. f slot (g slot generation)

running_twice : (f g : Renaming) (running : List (Option Id)) →
    map (option_map (rename f)) (map (option_map (rename g)) running) ≡ map (option_map (rename (both f g))) running
running_twice f g [] = refl
running_twice f g (o ∷ os) = ap₂ (λ (x : Option Id) (xs : List (Option Id)). x ∷ xs) (grind arith) (running_twice f g os)

names_twice : (f g : Renaming) (ns : List Named) →
    map (relabeled_named (renaming f)) (map (relabeled_named (renaming g)) ns) ≡ map (relabeled_named (renaming (both f g))) ns
names_twice f g [] = refl
names_twice f g (n ∷ ns) = ap₂ (λ (x : Option Id) (xs : List Named). record n { id = x } ∷ xs) (grind arith) (names_twice f g ns)

slots_twice : (f g : Renaming) (slots : List (Slot Content)) → renamed_slots f (renamed_slots g slots) ≡ renamed_slots (both f g) slots
slots_twice f g [] = refl
slots_twice f g (x ∷ xs) = cc (slots_twice (λ n. f (suc n)) (λ n. g (suc n)) xs)

pub twice : (f g : Renaming) (s : State) → renamed f (renamed g s) ≡ renamed (both f g) s
twice f g s = simp (names_twice, slots_twice, running_twice, map-map)

-- ---- where no id becomes another

pub has_first : (id : Id) (ids : List Id) → has_id (id ∷ ids) id ≡ true
has_first id ids = grind arith

has_rest : (x id : Id) (ids : List Id) → has_id ids id ≡ true → has_id (x ∷ ids) id ≡ true
has_rest x id ids h = grind arith

pub has_front : (xs ys : List Id) (id : Id) → has_id xs id ≡ true → has_id (xs ++ ys) id ≡ true
has_front [] ys id h = absurd (let f : ⊥ = cc in f)
has_front (x ∷ xs) ys id h = grind (arith, has_front xs ys id)

pub has_behind : (xs ys : List Id) (id : Id) → has_id ys id ≡ true → has_id (xs ++ ys) id ≡ true
has_behind [] ys id h = h
has_behind (x ∷ xs) ys id h = has_rest x id (xs ++ ys) (has_behind xs ys id h)

pub ids_same : (f : Renaming) (ids : List Id) → ((id : Id) → has_id ids id ≡ true → rename f id ≡ id) → map (rename f) ids ≡ ids
ids_same f [] h = refl
ids_same f (x ∷ xs) h = ap₂ (λ (y : Id) (ys : List Id). y ∷ ys) (h x (has_first x xs)) (ids_same f xs (λ id k. h id (has_rest x id xs k)))

pub walk_same : (f : Renaming) (w : Walk Id) → ((id : Id) → has_id (w.list ++ w.yet) id ≡ true → rename f id ≡ id) → relabeled_walk (renaming f) w ≡ w
walk_same f w h = simp (ids_same, has_front, has_behind)

pub running_same : (f : Renaming) (running : List (Option Id)) → ((id : Id) → has_id (run_ids running) id ≡ true → rename f id ≡ id) →
    map (option_map (rename f)) running ≡ running
running_same f [] h = refl
running_same f (None ∷ os) h = ap (λ (xs : List (Option Id)). None ∷ xs) (running_same f os h)
running_same f (Some id ∷ os) h = search (has_first, has_rest, (running_same f os (λ it k. h it (has_rest id it (run_ids os) k))))

pub timers_same : (f : Renaming) (ts : List (Due × Id)) → ((due : Due) (id : Id) → Has ts due id → rename f id ≡ id) →
    map (relabeled_entry (renaming f)) ts ≡ ts
timers_same f [] h = refl
timers_same f (t ∷ ts) h =
    let first = h t.0 t.1 (inl (refl, refl)) in
    let rest = timers_same f ts (λ due id k. h due id (inr k)) in
    λ i. (t.0, first i) ∷ rest i

pub slots_same : (f : Renaming) (slots : List (Slot Content)) →
    ((n : ℕ) (slot : Slot Content) → slice_get slots n ≡ Some slot → f n slot.generation ≡ slot.generation) → renamed_slots f slots ≡ slots
slots_same f [] h = refl
slots_same f (x ∷ xs) h = grind (arith, (slots_same (λ n. f (suc n)) xs (λ n slot e. h (suc n) slot e)))

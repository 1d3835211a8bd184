-- The pooled form of a state is that of the state at later times, whose slots were freed more often.
use Rattle.uv_tale.proofs.Names.{◌≡◌, ℕ, ◌+◌, List, [], ◌∷◌, Option, None, refl, ap, ap₂, sym, ◌∙◌, arith, length, slice_get, Event, Id, Slot, Named, Program, State, Moves, Content, Place, ◌≤◌, map, option_map, Next, Refuses, next, By, later, shift, earliest, Frees, more, surplus, suc, min, slice_get-map, slice_get_past, slice_get_cases, Retiming, retimed, retimed_slot, retimed_place, base, earlier, or_over, earliest_same, Renaming, renamed, youngest, rename, renamed_slots, by_frees, relabeled_named, get_renamed, length_renamed, capped_name, capped_place, staled_id, staled_name, next_grows, orderly, map_ordered, reduced, normal, pooled}
use Rattle.std.proofs.lemmas.Simd.{map-map}
use Rattle.uv_generations.proofs.Base.{youngest_same}
use Rattle.uv_workers.proofs.Frame.{put}
use Rattle.uv_tale.proofs.Form.{first_other, start_other}

abbrev reduced_names : ℕ → List (Slot Content) → List Named → List Named
reduced_names n slots names = map (capped_name n) (map (staled_name slots) names)

-- ---- counts and names, at later times

place_later : (n : ℕ) (r : Retiming) (place : Place) → capped_place n (retimed_place r place) ≡ retimed_place r (capped_place n place)
place_later n r place = grind arith

bound_later : (r : Retiming) (slots : List (Slot Content)) (o : Option Id) →
    option_map (staled_id (map (retimed_slot r) slots)) o ≡ option_map (staled_id slots) o
bound_later r slots o = grind (arith, slice_get-map)

names_later : (n : ℕ) (r : Retiming) (slots : List (Slot Content)) (names : List Named) →
    reduced_names n (map (retimed_slot r) slots) names ≡ reduced_names n slots names
names_later n r slots [] = refl
names_later n r slots (x ∷ xs) = simp (ap₂, bound_later, (names_later n r slots xs))

reduced_later : (n : ℕ) (d : By) (s : State) → reduced n (shift d s) ≡ shift d (reduced n s)
reduced_later n d s = simp (place_later, later, names_later, shift)

-- ---- and where slots were freed more often

bound_more : (k : Frees) (slots : List (Slot Content)) (o : Option Id) →
    option_map (staled_id ((by_frees k).slots slots)) (option_map (by_frees k).id o) ≡ option_map (by_frees k).id (option_map (staled_id slots) o)
bound_more k slots o = grind (arith, rename, get_renamed, slice_get)

names_more : (n : ℕ) (k : Frees) (slots : List (Slot Content)) (names : List Named) →
    reduced_names n ((by_frees k).slots slots) (map (relabeled_named (by_frees k)) names)
    ≡ map (relabeled_named (by_frees k)) (reduced_names n slots names)
names_more n k slots [] = refl
names_more n k slots (x ∷ xs) = simp (ap₂, bound_more, (names_more n k slots xs))

reduced_more : (n : ℕ) (k : Frees) (s : State) → reduced n (more k s) ≡ more k (reduced n s)
reduced_more n k s = simp names_more

-- ---- times and generations are apart

slots_apart : (f : Renaming) (r : Retiming) (slots : List (Slot Content)) →
    renamed_slots f (map (retimed_slot r) slots) ≡ map (retimed_slot r) (renamed_slots f slots)
slots_apart f r [] = refl
slots_apart f r (x ∷ xs) = cc (slots_apart (λ n. f (suc n)) r xs)

apart : (f : Renaming) (r : Retiming) (s : State) → renamed f (retimed r s) ≡ retimed r (renamed f s)
apart f r s = simp (slots_apart, map-map)

earliest_more : (k : Frees) (s : State) → earliest (more k s) ≡ more k (earliest s)
earliest_more k s =
    let ms = ap (or_over s.place) (first_other (by_frees k).id s.timers (min s.time s.clock)) in
    let starts = start_other (by_frees k).id s.timers s.next_start in
    let same : base (more k s) ≡ base s = λ i. record { ms = ms i; starts = starts i } in
    ap (λ (d : By). retimed (earlier d) (more k s)) same ∙ sym (apart (λ slot g. g + k slot) (earlier (base s)) s)

-- ---- the form

-- slots that were never used are as they were
abbrev pub IsUnused : Frees → State → Type 0
IsUnused k s = (slot : ℕ) → slice_get s.arena.slots slot ≡ None → k slot ≡ 0

normal_moved : (n : ℕ) (d : By) (k : Frees) (s : State) → IsUnused k s → normal n (shift d (more k s)) ≡ normal n s
normal_moved n d k s unused =
    let r = reduced n s in
    ap (λ (x : State). youngest (earliest x)) (reduced_later n d (more k s) ∙ ap (shift d) (reduced_more n k s))
    ∙ ap youngest (earliest_same d (more k r) ∙ earliest_more k r)
    ∙ youngest_same k (earliest r) (λ slot gone. grind (arith, retimed_slot, earlier, base, slice_get, slice_get-map))
  where
    back : {A B : Type 0} (f : A → B) (o : Option A) → option_map f o ≡ None → o ≡ None
    back f o e = grind arith

pub pooled_moved : (n : ℕ) (d : By) (k : Frees) (a b : State) → IsUnused k b → reduced n (shift d (more k b)) ≡ reduced n a → pooled n a ≡ pooled n b
pooled_moved n d k a b unused same =
    ap (λ (x : State). orderly (youngest (earliest x))) (sym same) ∙ ap orderly (normal_moved n d k b unused)

pub pooled_orderly : (n : ℕ) (s : State) → pooled n (orderly s) ≡ pooled n s
pooled_orderly n s = simp (put, map_ordered, option_map, earliest)

-- ---- behind a step from the youngest form, too

abbrev pub NextUnused : Frees → Next → Type 0
NextUnused k (Moves s line) = IsUnused k s
NextUnused k (Refuses why) = Unit {0}

surplus_unused : (s : State) (slot : ℕ) → length (youngest s).arena.slots ≤ slot → surplus s slot ≡ 0
surplus_unused s slot l = grind (arith, slice_get_past, length_renamed)

pub unused_behind : (p : Program) (s : State) (e : Event) → NextUnused (surplus s) (next p (youngest s) e)
unused_behind p s e = grind (arith, next, next_grows, length, surplus_unused, slice_get_cases)

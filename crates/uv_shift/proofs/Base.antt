-- The earliest form of a state, and that of the state once all its times are later.
use Rattle.uv_shift.proofs.Names.{◌≡◌, ℕ, ◌+◌, List, [], ◌∷◌, Option, Some, slice_get, refl, ap, ◌∙◌, arith, Id, Due, HandleRecord, Slot, Content, State, held, id_of, Place, ◌-◌, ◌≤◌, subst, inl, inr, map, option_map, min, Before, Has, AreTimers, Retiming, retimed_due, retimed_content, retimed_entry, retimed_place, retimed, By, later, shift, earlier, or_first, or_over, least_start, base, earliest}
use Rattle.uv_work.specs.declared.content.Content.TheVariants as content
use Rattle.uv_shift.proofs.Later.{shift_entry}
use Rattle.uv_shift.proofs.Retimed.{both, twice, handle_same, slots_same}

-- ---- none of its times is earlier than its base

first_before : (a : Due) (ts : List (Due × Id)) (due : Due) (id : Id) → Before a ts → Has ts due id → a.at ≤ due.at
first_before a [] due id h k = absurd k
first_before a (t ∷ ts) due id h (inl is) = subst (λ (x : Due). a.at ≤ x.at) is.0 (grind arith)
first_before a (t ∷ ts) due id h (inr rest) = first_before a ts due id h.1 rest

or_first_least : (ts : List (Due × Id)) (at : ℕ) → or_first ts at ≤ at
or_first_least ts at = grind arith

or_over_least : (place : Place) (at : ℕ) → or_over place at ≤ at
or_over_least place at = grind arith

start_least : (ts : List (Due × Id)) (start : ℕ) (due : Due) (id : Id) → Has ts due id → least_start ts start ≤ due.start
start_least [] start due id k = absurd k
start_least (t ∷ ts) start due id (inl is) = subst (λ (x : Due). min t.0.start (least_start ts start) ≤ x.start) is.0 (omega arith)
start_least (t ∷ ts) start due id (inr rest) = let l = start_least ts start due id rest in omega (arith, l)

least_start_least : (ts : List (Due × Id)) (start : ℕ) → least_start ts start ≤ start
least_start_least [] start = omega arith
least_start_least (t ∷ ts) start = let l = least_start_least ts start in omega (arith, l)

-- ---- what is made earlier, and later again

abbrev again : By → Retiming
again d = both (later d) (earlier d)

due_again : (d : By) (due : Due) → d.ms ≤ due.at → d.starts ≤ due.start → retimed_due (again d) due ≡ due
due_again d due h k = grind arith

place_again : (d : By) (place : Place) (at : ℕ) → d.ms ≤ or_over place at → retimed_place (again d) place ≡ place
place_again d place at h = grind arith

timers_again : (d : By) (ts : List (Due × Id)) → ((due : Due) (id : Id) → Has ts due id → (d.ms ≤ due.at) × (d.starts ≤ due.start)) →
    map (retimed_entry (again d)) ts ≡ ts
timers_again d [] h = refl
timers_again d (t ∷ ts) h =
    let k = h t.0 t.1 (inl (refl, refl)) in
    let first : retimed_due (again d) t.0 ≡ t.0 = due_again d t.0 k.0 k.1 in
    let rest = timers_again d ts (λ due id l. h due id (inr l)) in
    λ i. (first i, t.1) ∷ rest i

held_there : (slots : List (Slot Content)) (n : ℕ) (slot : Slot Content) → slice_get slots n ≡ Some slot → held slots (id_of n slot) ≡ slot.content
held_there slots n slot e = grind (arith, e)

content_again : (d : By) (s : State) (n : ℕ) (slot : Slot Content) (c : Option Content) → AreTimers s s.timers →
    ((due : Due) (id : Id) → Has s.timers due id → (d.ms ≤ due.at) × (d.starts ≤ due.start)) → held s.arena.slots (id_of n slot) ≡ c →
    option_map (retimed_content (again d)) c ≡ c
content_again d s n slot (Some (content.Handle its)) k h e = ap (λ (x : HandleRecord). Some (content.Handle x))
    (handle_same (again d) its
    (λ on. let l = h its.due (id_of n slot) (grind arith) in due_again d its.due l.0 l.1))
content_again d s n slot each k h e = assumption

-- the earliest form, made later by as much as the state itself is, is the state
pub earliest_later : (s : State) → AreTimers s s.timers → shift (base s) (earliest s) ≡ s
earliest_later s k =
    let d = base s in
    let clock = or_first s.timers (min s.time s.clock) in
    let one = or_over_least s.place clock in
    let two = or_first_least s.timers (min s.time s.clock) in
    let three = least_start_least s.timers s.next_start in
    let time : s.time - d.ms + d.ms ≡ s.time = omega (arith, one, two) in
    let shown : s.clock - d.ms + d.ms ≡ s.clock = omega (arith, one, two) in
    let start : s.next_start - d.starts + d.starts ≡ s.next_start = omega (arith, three) in
    let dues : (due : Due) (id : Id) → Has s.timers due id → (d.ms ≤ due.at) × (d.starts ≤ due.start) =
    λ due id h. (grind (arith, first_before, start_least)) in
    let slots = slots_same (again d) s.arena.slots
    (λ n slot e. let there = held_there s.arena.slots n slot e in content_again d s n slot slot.content k dues there) in
    let place = place_again d s.place clock (omega arith) in
    let timers = timers_again d s.timers dues in
    grind (arith, twice, later)

-- ---- whatever the times are later by, the earliest form is the same

least_start_later : (d : By) (ts : List (Due × Id)) (start : ℕ) →
    least_start (map (shift_entry d) ts) (start + d.starts) ≡ least_start ts start + d.starts
least_start_later d [] start = refl
least_start_later d (t ∷ ts) start = let l = least_start_later d ts start in omega (arith, l)

base_later : (d : By) (s : State) → (base (shift d s)).ms ≡ (base s).ms + d.ms
base_later d s = grind arith

pub earliest_same : (d : By) (s : State) → earliest (shift d s) ≡ earliest s
earliest_same d s =
    let b = base (shift d s) in
    let ms = base_later d s in
    let starts = least_start_later d s.timers s.next_start in
    let at : (at : ℕ) → at + d.ms - b.ms ≡ at - (base s).ms = λ at. omega (arith, ms) in
    let start : (n : ℕ) → n + d.starts - b.starts ≡ n - (base s).starts = λ n. omega (arith, starts) in
    let same : both (earlier b) (later d) ≡ earlier (base s) = λ i. record { time = λ n. at n i; start = λ n. start n i } in
    twice (earlier b) (later d) s ∙ ap (λ (r : Retiming). retimed r s) same

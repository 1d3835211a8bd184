-- The order of a state's slots by its names has each of them once.
use Rattle.uv_slots.proofs.Names.{◌≡◌, ℕ, zero, suc, ◌<◌, ◌+◌, List, [], ◌∷◌, ◌++◌, length, Option, Some, None, slice_get, refl, ap, sym, ◌∙◌, arith, Id, Var, Slot, Content, Named, State, named, unbound, held, id_of, slice_get_past, slice_get_cases, ◌≤◌, option_map, option_to_list, unwrap_or, times, IsOrder, name_in, IsTidy}

-- ---- the order

-- the slot of what a name is bound to, if it holds that still
abbrev pub slot_bound : List (Slot Content) → Option Id → Option ℕ
slot_bound slots None = None
slot_bound slots (Some id) = option_map (λ (x : Content). id.slot) (held slots id)

-- those of these names, in their order
abbrev pub slots_bound : List Named → List (Slot Content) → List ℕ
slots_bound [] slots = []
slots_bound (n ∷ ns) slots = option_to_list (slot_bound slots n.id) ++ slots_bound ns slots

-- the order of a state's slots by its names; those that are free stand behind
abbrev pub named_order : State → List ℕ
named_order s = slots_bound s.names s.arena.slots ++ s.arena.free

-- an order of all slots of this list
pub record IsWhole {X : Type 0} (o : List ℕ) (slots : List X) : Type 0 where
  pub order : IsOrder o
  pub length : length o ≡ length slots

-- ---- a list in which each number below a limit stands once, and no other one

-- how often numbers below a limit stand in a list
abbrev total : ℕ → List ℕ → ℕ
total zero o = 0
total (suc n) o = times o n + total n o

total_none : (n : ℕ) → total n [] ≡ 0
total_none zero = refl
total_none (suc n) = grind (arith, total_none n)

total_past : (n m : ℕ) (ms : List ℕ) → n ≤ m → total n (m ∷ ms) ≡ total n ms
total_past zero m ms l = refl
total_past (suc n) m ms l = grind (arith, total_past n m ms)

total_more : (n m : ℕ) (ms : List ℕ) → m < n → total n (m ∷ ms) ≡ suc (total n ms)
total_more zero m ms l = grind arith
total_more (suc n) m ms l = grind (arith, total_more n m ms, total_past n m ms)

total_length : (n : ℕ) (o : List ℕ) → ((m : ℕ) → n ≤ m → times o m ≡ 0) → total n o ≡ length o
total_length n [] none = total_none n
total_length n (m ∷ ms) none = grind (arith, none m, total_more n m ms, total_length n ms (λ k l. grind (arith, none k l)))

total_once : (n : ℕ) (o : List ℕ) → ((m : ℕ) → m < n → times o m ≡ 1) → total n o ≡ n
total_once zero o once = refl
total_once (suc n) o once = grind (arith, once n, total_once n o (λ m l. once m (omega (arith, l))))

times_append : (xs ys : List ℕ) (n : ℕ) → times (xs ++ ys) n ≡ times xs n + times ys n
times_append [] ys n = grind arith
times_append (x ∷ xs) ys n = grind (arith, times_append xs ys n)

-- ---- the slots that names are bound to

-- the name at this place is bound to this slot
record IsBoundTo (ns : List Named) (slots : List (Slot Content)) (n i : ℕ) : Type 0 where
  its : Named
  at : slice_get ns i ≡ Some its
  bound : slot_bound slots its.id ≡ Some n

one_time : (o : Option ℕ) (n : ℕ) → o ≡ Some n → times (option_to_list o) n ≡ 1
one_time o n e = grind arith

no_time : (o : Option ℕ) (n : ℕ) → (o ≡ Some n → ⊥) → times (option_to_list o) n ≡ 0
no_time o n d = grind arith

none_bound : (ns : List Named) (slots : List (Slot Content)) (n : ℕ) → ((i : ℕ) → IsBoundTo ns slots n i → ⊥) → times (slots_bound ns slots) n ≡ 0
none_bound [] slots n none = refl
none_bound (m ∷ ms) slots n none =
    let front = no_time (slot_bound slots m.id) n (λ e. none 0 (record { its = m; at = refl; bound = e })) in
    let rest = none_bound ms slots n (λ i k. none (suc i) (grind arith)) in
    times_append (option_to_list (slot_bound slots m.id)) (slots_bound ms slots) n ∙ (grind (arith, front, rest))

one_bound : (ns : List Named) (slots : List (Slot Content)) (n i : ℕ) → IsBoundTo ns slots n i → ((j : ℕ) → IsBoundTo ns slots n j → j ≡ i) →
    times (slots_bound ns slots) n ≡ 1
one_bound [] slots n i k only = absurd (grind (arith, k.at))
one_bound (m ∷ ms) slots n zero k only =
    let same : m ≡ k.its = (let e = k.at in cc e) in
    let front = one_time (slot_bound slots m.id) n (ap (λ (x : Named). slot_bound slots x.id) same ∙ k.bound) in
    let rest = none_bound ms slots n (λ i l. (let e = only (suc i) (grind arith) in omega (arith, e))) in
    times_append (option_to_list (slot_bound slots m.id)) (slots_bound ms slots) n ∙ (grind (arith, front, rest))
one_bound (m ∷ ms) slots n (suc i) k only =
    let front = no_time (slot_bound slots m.id) n
    (λ e. (let f = only 0 (record { its = m; at = refl; bound = e }) in omega (arith, f))) in
    let rest = one_bound ms slots n i (record { its = k.its; at = k.at; bound = k.bound })
    (λ j l. (let f = only (suc j) (grind arith) in omega (arith, f))) in
    times_append (option_to_list (slot_bound slots m.id)) (slots_bound ms slots) n ∙ (grind (arith, front, rest))

-- ---- a state's

-- how often a number of a slot stands in an order of all
abbrev present : Option (Slot Content) → ℕ
present None = 0
present (Some slot) = 1

-- what a bound slot is held under
record IsBoundBy (slots : List (Slot Content)) (id : Option Id) (n : ℕ) : Type 0 where
  its : Id
  content : Content
  slot : Slot Content
  is : id ≡ Some its
  holds : held slots its ≡ Some content
  number : its.slot ≡ n
  there : slice_get slots n ≡ Some slot
  generation : slot.generation ≡ its.generation
  content_there : slot.content ≡ Some content

bound_by : (slots : List (Slot Content)) (id : Option Id) (n : ℕ) → slot_bound slots id ≡ Some n → IsBoundBy slots id n
bound_by slots id n e = grind arith

-- what a slot holds is held under its id
held_there : (slots : List (Slot Content)) (n : ℕ) (slot : Slot Content) → slice_get slots n ≡ Some slot → held slots (id_of n slot) ≡ slot.content
held_there slots n slot e = grind arith

-- a name that is bound to something stands among the names
pub named_there : (o : Option Named) (id : Id) → (unwrap_or o unbound).id ≡ Some id → o ≡ Some (unwrap_or o unbound)
named_there o id e = grind arith

-- the name of what a slot holds is bound to it, and no other one
held_once : (s : State) (n : ℕ) (slot : Slot Content) (x : Content) → IsTidy s → slice_get s.arena.slots n ≡ Some slot → slot.content ≡ Some x →
    times (slots_bound s.names s.arena.slots) n ≡ 1
held_once s n slot x tidy e f = one_bound s.names s.arena.slots n (name_in x).0
    (record {
      its = named s (name_in x);
      at = named_there (slice_get s.names (name_in x).0) id is;
      bound = ap (slot_bound s.arena.slots) is ∙ ap (option_map (λ (y : Content). n)) holds;
    }) only where
      id : Id
      id = id_of n slot

      holds : held s.arena.slots id ≡ Some x
      holds = held_there s.arena.slots n slot e ∙ f

      is : (named s (name_in x)).id ≡ Some id
      is = tidy.bound id x holds

      only : (j : ℕ) → IsBoundTo s.names s.arena.slots n j → j ≡ (name_in x).0
      only j k =
          let b = bound_by s.arena.slots k.its.id n k.bound in
          let v : Var = record { 0 = j } in
          let bound : (named s v).id ≡ Some b.its = ap (λ (m : Option Named). (unwrap_or m unbound).id) k.at ∙ b.is in
          let same = tidy.alone v b.its b.content bound b.holds in
          let its : b.content ≡ x = grind arith in
          ap (λ (u : Var). u.0) (sym same) ∙ ap (λ (y : Content). (name_in y).0) its

named_once : (s : State) (n : ℕ) → IsTidy s → times (named_order s) n ≡ present (slice_get s.arena.slots n)
named_once s n tidy = grind (arith, times_append, none_bound, bound_by, held_once)

pub tidy_whole : (s : State) → IsTidy s → IsWhole (named_order s) s.arena.slots
tidy_whole s tidy =
    let slots = s.arena.slots in
    let once : (n : ℕ) → n < length slots → times (named_order s) n ≡ 1 = λ n l. grind (arith, named_once s n tidy, slice_get_cases slots n) in
    let none : (n : ℕ) → length slots ≤ n → times (named_order s) n ≡ 0 = λ n l. named_once s n tidy ∙ ap present (slice_get_past slots n l) in
    let same : length (named_order s) ≡ length slots = sym (total_length (length slots) (named_order s) none) ∙ total_once (length slots) _ once in
    grind arith

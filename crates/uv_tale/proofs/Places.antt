-- Where the slots of a state go in the order of its names: to the places that its tale tells.
use Rattle.uv_tale.proofs.Names.{◌≡◌, ℕ, zero, suc, ◌+◌, ◌++◌, ◌<◌, List, [], ◌∷◌, length, replicate, Option, Some, None, refl, ap, sym, ◌∙◌, arith, append_assoc, length-append, slice_get, map, option_map, option_to_list, map-append, Id, Named, Slot, held, Content, By, earlier, retimed_content, times, IsOrder, place_of, picked, slot_bound, slots_bound, vacancies, stands, placed_once, Told, bound_by, bound_to, told_name, is_there}
use Rattle.uv_tale.proofs.Made.{holding, place_told, slot_told, slots_held, empty_slot, numbers_from}

-- ---- the place of a number

-- what stands at a place in an order has that place
pub placed : (o : List ℕ) (m n : ℕ) → IsOrder o → slice_get o m ≡ Some n → place_of o n ≡ m
placed o m n h e = grind (arith, placed_once o m n e, h.once n, stands o m n e, h.no_other n)

-- ---- numbers that are free

pub free_placed : (o free : List ℕ) (first : ℕ) → IsOrder o →
    ((i n : ℕ) → slice_get free i ≡ Some n → slice_get o (first + i) ≡ Some n) → map (place_of o) free ≡ numbers_from first (length free)
free_placed o [] first h at = refl
free_placed o (m ∷ ms) first h at =
    let front : place_of o m ≡ first = placed o first m h (grind (arith, at 0 m)) in
    let rest = free_placed o ms (suc first) h (λ i n e. grind (arith, at (suc i) n)) in
    λ i. front i ∷ rest i

-- a slot as the form has it
abbrev pub clean : By → Slot Content → Slot Content
clean d slot = record { generation = 0; content = option_map (retimed_content (earlier d)) slot.content }

-- ---- names

module _ (d : By) (n : ℕ) (slots : List (Slot Content)) where
  abbrev pub told : List Named → List Told
  told ns = map (told_name d n slots) ns

  ahead : (o : Option Id) (rest : List ℕ) (i : ℕ) →
      slice_get (option_to_list (slot_bound slots o) ++ rest) (holding (bound_to d slots o) + i) ≡ slice_get rest i
  ahead None rest i = ap (slice_get rest) (omega arith)
  ahead (Some id) rest i = by (held slots id) where
    by : (c : Option Content) →
        slice_get (option_to_list (option_map (λ (x : Content). id.slot) c) ++ rest) (holding (bound_by d c) + i) ≡ slice_get rest i
    by None = ap (slice_get rest) (omega arith)
    by (Some x) = ap (slice_get (id.slot ∷ rest)) (let e : 1 + i ≡ suc i = omega arith in e)

  -- at the place that is told of a name stands the slot of what it holds
  pub at_place : (ns : List Named) (free : List ℕ) (v : ℕ) (m : Named) (id : Id) (x : Content) → slice_get ns v ≡ Some m →
      m.id ≡ Some id → held slots id ≡ Some x → slice_get (slots_bound ns slots ++ free) (place_told (told ns) v) ≡ Some id.slot
  at_place [] free v m id x e f g = grind arith
  at_place (k ∷ ks) free zero m id x e f g =
      let same : k ≡ m = cc in
      let its : slot_bound slots k.id ≡ Some id.slot = ap (λ (y : Named). slot_bound slots y.id) same ∙ ap (slot_bound slots) f
      ∙ ap (option_map (λ (y : Content). id.slot)) g in
      ap (λ (y : Option ℕ). slice_get (option_to_list y ++ slots_bound ks slots ++ free) 0) its
  at_place (k ∷ ks) free (suc v) m id x e f g =
      ap (λ (o : List ℕ). slice_get o (holding (bound_to d slots k.id) + place_told (told ks) v))
      (append_assoc (option_to_list (slot_bound slots k.id)) (slots_bound ks slots) free)
      ∙ ahead k.id (slots_bound ks slots ++ free) (place_told (told ks) v)
      ∙ at_place ks free v m id x e f g

  -- ---- slots

  cleaned : (o : Option Id) → map (clean d) (picked (option_to_list (slot_bound slots o)) slots) ≡ slot_told (bound_to d slots o)
  cleaned None = refl
  cleaned (Some id) = by (held slots id) refl where
    by : (c : Option Content) → held slots id ≡ c →
        map (clean d) (picked (option_to_list (option_map (λ (x : Content). id.slot) c)) slots) ≡ slot_told (bound_by d c)
    by None e = refl
    by (Some x) e = let k = is_there slots id x e in rw (k.there) (rw (k.content) refl)

  picked_append : (xs ys : List ℕ) → picked (xs ++ ys) slots ≡ picked xs slots ++ picked ys slots
  picked_append [] ys = refl
  picked_append (x ∷ xs) ys = rw (picked_append xs ys) (sym (append_assoc (option_to_list (slice_get slots x)) (picked xs slots) (picked ys slots)))

  pub held_picked : (ns : List Named) → map (clean d) (picked (slots_bound ns slots) slots) ≡ slots_held (told ns)
  held_picked [] = refl
  held_picked (m ∷ ms) =
      ap (map (clean d)) (picked_append (option_to_list (slot_bound slots m.id)) (slots_bound ms slots))
      ∙ map-append (clean d) (picked (option_to_list (slot_bound slots m.id)) slots) (picked (slots_bound ms slots) slots)
      ∙ (λ i. cleaned m.id i ++ held_picked ms i)

  emptied : (o : Option (Slot Content)) → vacancies o ≡ 1 → map (clean d) (option_to_list o) ≡ empty_slot ∷ []
  emptied o e = grind arith

  pub free_picked : (free : List ℕ) → ((m : ℕ) → 0 < times free m → vacancies (slice_get slots m) ≡ 1) →
      map (clean d) (picked free slots) ≡ replicate (length free) empty_slot
  free_picked [] h = refl
  free_picked (m ∷ ms) h =
      map-append (clean d) (option_to_list (slice_get slots m)) (picked ms slots)
      ∙ (λ i. emptied (slice_get slots m) (h m (grind arith)) i ++ free_picked ms (λ k l. h k (grind arith)) i)

  pub all_picked : (ns : List Named) (free : List ℕ) → ((m : ℕ) → 0 < times free m → vacancies (slice_get slots m) ≡ 1) →
      map (clean d) (picked (slots_bound ns slots ++ free) slots) ≡ slots_held (told ns) ++ replicate (length free) empty_slot
  all_picked ns free h =
      ap (map (clean d)) (picked_append (slots_bound ns slots) free)
      ∙ map-append (clean d) (picked (slots_bound ns slots) slots) (picked free slots)
      ∙ (λ i. held_picked ns i ++ free_picked free h i)

  bound_length : (o : Option Id) → length (option_to_list (slot_bound slots o)) ≡ length (slot_told (bound_to d slots o))
  bound_length None = refl
  bound_length (Some id) = by (held slots id) where
    by : (c : Option Content) → length (option_to_list (option_map (λ (x : Content). id.slot) c)) ≡ length (slot_told (bound_by d c))
    by None = refl
    by (Some x) = refl

  -- as many slots are held as names hold something
  pub held_length : (ns : List Named) → length (slots_bound ns slots) ≡ length (slots_held (told ns))
  held_length [] = refl
  held_length (m ∷ ms) = grind (arith, length-append, bound_length m.id, held_length ms)

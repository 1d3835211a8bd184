-- The bytes of what is told, as they are written.
use Rattle.uv_state_key.proofs.Names.{◌≡◌, ◌<◌, ℕ, true, List, [], ◌∷◌, ◌++◌, refl, ap, ap₂, sym, map, flat_map, length-map, Id, HandleRecord, Calls, Slot, Content, State, By, name_at, names_at, tale_by, number_code, number_small, place_code, members_code, handle_number, are_few, few_number}
use Rattle.uv_key.specs.Codes.{byte_code, list_code}
use Rattle.uv_state_key.specs.Key.{numbers_code}
use Rattle.uv_state_key.specs.Listing.{named_lists_code, named_requests_code, told_state_code, walks_code}
use Rattle.uv_state_key.specs.TaleKey.{names_code, tale_code, told_code, told_lists_code, told_requests_code, told_watchers_code}
use Rattle.uv_state_key.specs.TaleKey.{told_handle_code, counts_code}

module _ {A B : Type 0} (f : B → List ℕ) (g : A → B) where
  flat_map_map : (xs : List A) → flat_map (λ x. f (g x)) xs ≡ flat_map f (map g xs)
  flat_map_map [] = refl
  flat_map_map (x ∷ xs) = ap (λ ys. f (g x) ++ ys) (flat_map_map xs)

  -- the code of what becomes of the members
  pub list_code_map : (xs : List A) → list_code (λ x. f (g x)) xs ≡ list_code f (map g xs)
  unfolding list_code
  list_code_map xs = ap₂ (λ n ys. number_code n ++ ys) (sym (length-map xs g)) (flat_map_map xs)

named_members : (slots : List (Slot Content)) (ids : List Id) → members_code true slots ids ≡ names_code (names_at slots ids)
unfolding names_code
named_members slots ids = list_code_map number_code (name_at slots) ids

pub few_alone : (n : ℕ) (c : Calls) → are_few c ≡ true → byte_code n ++ counts_code c ≡ n ∷ few_number c ∷ []
unfolding byte_code counts_code
few_alone n c few = rw few refl

pub few_handle : (h : HandleRecord) (c : Calls) → h.name.0 < 128 → h.due.at < 128 → h.due.start < 128 → h.repeat < 128 → are_few c ≡ true
    → told_handle_code h ++ counts_code c ≡ handle_number h ∷ h.due.at ∷ h.due.start ∷ h.repeat ∷ h.name.0 ∷ few_number c ∷ []
unfolding told_handle_code counts_code byte_code
few_handle h c name at start repeat few =
    rw (
      few,
      number_small h.due.at at,
      number_small h.due.start start,
      number_small h.repeat repeat,
      number_small h.name.0 name,
    ) refl

-- all lists
named_lists : (d : By) (n : ℕ) (s : State) → named_lists_code s ≡ told_lists_code (tale_by d n s)
unfolding named_lists_code named_requests_code walks_code told_lists_code told_watchers_code told_requests_code
named_lists d n s = simp (named_members)

pub told_state : (d : By) (n : ℕ) (s : State) → told_state_code d n s ≡ tale_code (tale_by d n s)
unfolding told_state_code tale_code
told_state d n s =
    let t = tale_by d n s in
    λ i.
    place_code t.place ++ list_code told_code t.names ++ number_code t.used ++ number_code t.unused
    ++ named_lists d n s i ++ numbers_code t.numbers

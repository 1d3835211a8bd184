-- Orders of slots, and what stands in slots that are in such an order.
use Rattle.uv_slots.proofs.Names.{◌≡◌, ℕ, zero, suc, ◌<◌, ◌==◌, List, [], ◌∷◌, ◌++◌, length, drop, Bool, true, false, Option, Some, None, if◌then◌else◌, slice_get, slice_set, list_any, refl, ap, sym, ◌∙◌, arith, eqb-false, ◌≤◌, ◌||◌, option_map, unwrap_or, slice_get_past, slice_get_cases, append_assoc, length-append, length-drop, drop-append-le, drop-set-lt, times, IsOrder, place_in, place_of, picked, arranged_slots}
use Rattle.std.proofs.lemmas.List.Folds.{list_any-append}

-- ---- places

-- a number is in front, or in what is behind
place_cases : {P : Type 0} (m : ℕ) (ms : List ℕ) (n i : ℕ) → place_in (m ∷ ms) n ≡ Some i → (m ≡ n → i ≡ 0 → P) →
    ((m == n) ≡ false → (j : ℕ) → place_in ms n ≡ Some j → i ≡ suc j → P) → P
place_cases {P} m ms n i e front behind = by (m == n) (place_in ms n) refl refl e where
  by : (b : Bool) (p : Option ℕ) → (m == n) ≡ b → place_in ms n ≡ p → (if b then Some 0 else option_map suc p) ≡ Some i → P
  by b p same at e = grind arith

unplaced : (o : List ℕ) (n : ℕ) → place_in o n ≡ None → times o n ≡ 0
unplaced [] n e = refl
unplaced (m ∷ ms) n e = grind (arith, unplaced ms n)

missing : (o : List ℕ) (n : ℕ) → times o n ≡ 0 → place_in o n ≡ None
missing [] n e = refl
missing (m ∷ ms) n e = grind (arith, missing ms n)

pub placed_at : (o : List ℕ) (n i : ℕ) → place_in o n ≡ Some i → slice_get o i ≡ Some n
placed_at [] n i e = cc
placed_at (m ∷ ms) n i e = place_cases m ms n i e (λ same first. rw first (ap Some same)) (λ other j at next. rw next (placed_at ms n j at))

-- ---- lists

pub get_set : {X : Type 0} (xs : List X) (n : ℕ) (x y : X) → slice_get xs n ≡ Some y → slice_get (slice_set xs n x) n ≡ Some x
get_set (z ∷ zs) (suc n) x y e = get_set zs n x y e
get_set xs n x y e = grind arith

pub get_set_other : {X : Type 0} (xs : List X) (n m : ℕ) (x : X) → (m ≡ n → ⊥) → slice_get (slice_set xs n x) m ≡ slice_get xs m
get_set_other (z ∷ zs) (suc n) (suc m) x l = get_set_other zs n m x (λ e. l (ap suc e))
get_set_other xs n m x l = grind arith

get_push : {X : Type 0} (xs ys : List X) (n : ℕ) (x : X) → slice_get xs n ≡ Some x → slice_get (xs ++ ys) n ≡ Some x
get_push (z ∷ zs) ys (suc n) x e = get_push zs ys n x e
get_push xs ys n x e = grind arith

get_behind : {X : Type 0} (front xs : List X) (n : ℕ) → length front ≤ length xs → length front ≤ n →
    slice_get (front ++ drop (length front) xs) n ≡ slice_get xs n
get_behind (y ∷ ys) (z ∷ zs) (suc n) k l = get_behind ys zs n (omega (arith, k)) (omega (arith, l))
get_behind front xs n k l = grind arith

set_behind : {X : Type 0} (front xs : List X) (n : ℕ) (x : X) → length front ≤ length xs → length front ≤ n →
    slice_set (front ++ drop (length front) xs) n x ≡ front ++ drop (length front) (slice_set xs n x)
set_behind {X} (y ∷ ys) (z ∷ zs) (suc n) x k l = ap (λ (us : List X). y ∷ us) (set_behind ys zs n x (omega (arith, k)) (omega (arith, l)))
set_behind front xs n x k l = grind arith

any_at : {X : Type 0} (f : X → Bool) (xs : List X) (n : ℕ) (x : X) → slice_get xs n ≡ Some x → f x ≡ true → list_any f xs ≡ true
any_at f (y ∷ ys) (suc n) x e t = grind (arith, any_at f ys n x e t)
any_at f xs n x e t = grind arith

any_found : {X : Type 0} {P : Type 0} (f : X → Bool) (xs : List X) → list_any f xs ≡ true →
    ((n : ℕ) (x : X) → slice_get xs n ≡ Some x → f x ≡ true → P) → P
any_found f [] e each = cc
any_found {X} {P} f (y ∷ ys) e each = by (f y) refl e (λ t. any_found f ys t (λ n x. each (suc n) x)) where
  by : (b : Bool) → f y ≡ b → (b || list_any f ys) ≡ true → (list_any f ys ≡ true → P) → P
  by true t e rest = each 0 y refl t
  by false t e rest = rest e

any_behind : {X : Type 0} (f : X → Bool) (xs : List X) (n : ℕ) → list_any f (drop n xs) ≡ true → list_any f xs ≡ true
any_behind f xs zero e = e
any_behind f [] (suc n) e = e
any_behind f (y ∷ ys) (suc n) e = grind (arith, any_behind f ys n e)

-- ---- what is picked

-- a list has a slot of each of these numbers
abbrev AreIn : {X : Type 0} → List ℕ → List X → Type 0
AreIn o slots = (n : ℕ) → length slots ≤ n → times o n ≡ 0

first_in : (m : ℕ) (ms : List ℕ) (length : ℕ) → ((n : ℕ) → length ≤ n → times (m ∷ ms) n ≡ 0) → m < length
first_in m ms length h = grind (arith, h m)

-- so the first one has its slot, and the rest of them have theirs
first_picked : {X : Type 0} {P : Type 0} (m : ℕ) (ms : List ℕ) (slots : List X) → AreIn (m ∷ ms) slots →
    ((x : X) → slice_get slots m ≡ Some x → AreIn ms slots → P) → P
first_picked {X} {P} m ms slots h each = by (slice_get slots m) refl where
  by : (o : Option X) → slice_get slots m ≡ o → P
  by o e = grind (arith, slice_get_cases, first_in)

length_picked : {X : Type 0} (o : List ℕ) (slots : List X) → AreIn o slots → length (picked o slots) ≡ length o
length_picked [] slots h = refl
length_picked {X} (m ∷ ms) slots h = first_picked m ms slots h
    (λ x e rest. rw e (ap suc (length_picked ms slots rest)))

get_picked : {X : Type 0} (o : List ℕ) (slots more : List X) (n i : ℕ) → AreIn o slots → place_in o n ≡ Some i →
    slice_get (picked o slots ++ more) i ≡ slice_get slots n
get_picked [] slots more n i h e = cc
get_picked (m ∷ ms) slots more n i h e = first_picked m ms slots h (λ x there rest. rw there
    (place_cases m ms n i e (λ same first. rw first (sym there ∙ ap (slice_get slots) same))
    (λ other j at next. rw next (get_picked ms slots more n j rest at))))

apart : (m : ℕ) (ms : List ℕ) (n : ℕ) → times (m ∷ ms) n ≡ 0 → m ≡ n → ⊥
apart m ms n e same = grind arith

-- setting a slot that isn't picked leaves what is picked
kept_picked : {X : Type 0} (o : List ℕ) (slots : List X) (n : ℕ) (x : X) → times o n ≡ 0 → picked o (slice_set slots n x) ≡ picked o slots
kept_picked [] slots n x e = refl
kept_picked {X} (m ∷ ms) slots n x e = search (get_set_other, apart, (kept_picked ms slots n x (grind arith)))

set_picked : {X : Type 0} (o : List ℕ) (slots more : List X) (n i : ℕ) (x : X) → AreIn o slots → times o n ≡ 1 → place_in o n ≡ Some i →
    slice_set (picked o slots ++ more) i x ≡ picked o (slice_set slots n x) ++ more
set_picked [] slots more n i x h once e = cc
set_picked {X} (m ∷ ms) slots more n i x h once e = first_picked m ms slots h (λ y there rest. rw there
    (place_cases m ms n i e
    (λ same first. grind (arith, get_set, kept_picked))
    (λ other j at next. rw next
    (rw (get_set_other slots n m x (eqb-false m n other) ∙ there)
    (ap (λ (xs : List X). y ∷ xs) (set_picked ms slots more n j x rest (grind arith) at))))))

push_picked : {X : Type 0} (o : List ℕ) (slots : List X) (x : X) → AreIn o slots → picked o (slots ++ x ∷ []) ≡ picked o slots
push_picked [] slots x h = refl
push_picked {X} (m ∷ ms) slots x h = first_picked m ms slots h (λ y there rest. rw there
    (rw (get_push slots (x ∷ []) m y there) (ap (λ (xs : List X). y ∷ xs) (push_picked ms slots x rest))))

any_picked : {X : Type 0} (f : X → Bool) (o : List ℕ) (slots : List X) → AreIn o slots → list_any f (picked o slots) ≡ true →
    list_any f slots ≡ true
any_picked f [] slots h e = cc
any_picked f (m ∷ ms) slots h e = first_picked m ms slots h (λ y there rest.
    grind (arith, rw there at e, any_at f slots m y there, any_picked f ms slots rest))

-- ---- slots in an order

-- an order that names slots of this list
pub record Fits {X : Type 0} (o : List ℕ) (slots : List X) : Type 0 where
  pub order : IsOrder o
  pub within : length o ≤ length slots

are_in : {X : Type 0} (o : List ℕ) (slots : List X) → Fits o slots → AreIn o slots
are_in o slots h n l = h.order.no_other n (omega arith)

-- a number that has no place is behind those that the order names
pub behind : (o : List ℕ) (n : ℕ) → IsOrder o → place_in o n ≡ None → length o ≤ n
behind o n h e = grind (arith, h.once n, unplaced o n)

pub place_behind : (o : List ℕ) (n : ℕ) → IsOrder o → length o ≤ n → place_of o n ≡ n
place_behind o n h l = grind (arith, missing o n, h.no_other n)

-- the number at a place, and at one behind the order the place itself
abbrev pub number_at : List ℕ → ℕ → ℕ
number_at o i = unwrap_or (slice_get o i) i

number_back : (o : List ℕ) (n : ℕ) → IsOrder o → number_at o (place_of o n) ≡ n
number_back o n h = grind (arith, slice_get_past, behind, placed_at)

place_apart : (o : List ℕ) (a b : ℕ) → IsOrder o → place_of o a ≡ place_of o b → a ≡ b
place_apart o a b h e = sym (number_back o a h) ∙ ap (number_at o) e ∙ number_back o b h

pub same_place : (o : List ℕ) (a b : ℕ) → IsOrder o → (place_of o a == place_of o b) ≡ (a == b)
same_place o a b h = grind (arith, place_apart o a b h)

pub get_arranged : {X : Type 0} (o : List ℕ) (slots : List X) (n : ℕ) → Fits o slots →
    slice_get (arranged_slots o slots) (place_of o n) ≡ slice_get slots n
get_arranged {X} o slots n h = by (place_in o n) refl where
  by : (p : Option ℕ) → place_in o n ≡ p → slice_get (arranged_slots o slots) (unwrap_or p n) ≡ slice_get slots n
  by p e = grind (arith, get_picked, are_in, length_picked, behind, get_behind)

pub set_arranged : {X : Type 0} (o : List ℕ) (slots : List X) (n : ℕ) (x : X) → Fits o slots →
    slice_set (arranged_slots o slots) (place_of o n) x ≡ arranged_slots o (slice_set slots n x)
set_arranged {X} o slots n x h = by (place_in o n) refl where
  by : (p : Option ℕ) → place_in o n ≡ p → slice_set (arranged_slots o slots) (unwrap_or p n) x ≡ arranged_slots o (slice_set slots n x)
  by p e = grind (arith, missing, set_picked, are_in, drop-set-lt, length_picked, behind, set_behind, kept_picked, unplaced)

pub push_arranged : {X : Type 0} (o : List ℕ) (slots : List X) (x : X) → Fits o slots →
    arranged_slots o slots ++ x ∷ [] ≡ arranged_slots o (slots ++ x ∷ [])
push_arranged o slots x h = search (push_picked, are_in, drop-append-le, append_assoc)

pub length_arranged : {X : Type 0} (o : List ℕ) (slots : List X) → Fits o slots → length (arranged_slots o slots) ≡ length slots
length_arranged o slots h = grind (arith, length_picked, are_in, length-append, length-drop)

pub any_arranged : {X : Type 0} (f : X → Bool) (o : List ℕ) (slots : List X) → Fits o slots →
    list_any f (arranged_slots o slots) ≡ list_any f slots
any_arranged {X} f o slots h = both (list_any f (arranged_slots o slots)) (list_any f slots)
    (λ e. by (list_any f (picked o slots)) refl (sym (list_any-append f (picked o slots) (drop (length o) slots)) ∙ e))
    (λ e. any_found f slots e (λ n x there t. any_at f (arranged_slots o slots) (place_of o n) x (get_arranged o slots n h ∙ there) t)) where
      both : (a b : Bool) → (a ≡ true → b ≡ true) → (b ≡ true → a ≡ true) → a ≡ b
      both a b to fro = grind (arith, to, fro)

      by : (b : Bool) → list_any f (picked o slots) ≡ b → (b || list_any f (drop (length o) slots)) ≡ true → list_any f slots ≡ true
      by b t e = grind (arith, any_picked, are_in, any_behind)

-- What has a number, after the list has changed.
use Rattle.uv_pool.proofs.Names.{get_or, ◌≡◌, ◌+◌, ◌-◌, ◌<◌, ◌≤◌, ◌⊎◌, ℕ, zero, suc, List, [], ◌∷◌, ◌++◌, Some, None, length, drop, slice_get, set, refl, ap, sym, ◌∙◌, inl, inr, arith, slice_get_read, slice_get_past, slice_get_within, at_number}

pub before : {X : Type 0} (first : ℕ) (xs : List X) (n : ℕ) → n < first → at_number first xs n ≡ None
before (suc first) xs (suc n) h = before first xs n (omega arith)
before each xs e2 h = grind arith

pub from_first : {X : Type 0} (first : ℕ) (xs : List X) (n : ℕ) → first ≤ n → at_number first xs n ≡ slice_get xs (n - first)
from_first (suc first) xs (suc n) h = grind (arith, (from_first first xs n (omega arith)))
from_first each xs e2 h = grind arith

get_appended : {X : Type 0} (xs : List X) (y : X) (n : ℕ) (z : X) → slice_get (xs ++ y ∷ []) n ≡ Some z → (slice_get xs n ≡ Some z)
    ⊎ ((n ≡ length xs) × (y ≡ z))
get_appended (x ∷ xs) y (suc n) z h = grind (arith, (get_appended xs y n z h))
get_appended each y e2 z h = grind arith

pub number_appended : {X : Type 0} (first : ℕ) (xs : List X) (y : X) (n : ℕ) (z : X) → at_number first (xs ++ y ∷ []) n ≡ Some z
    → (at_number first xs n ≡ Some z) ⊎ ((n ≡ first + length xs) × (y ≡ z))
number_appended (suc first) xs y (suc n) z h = grind (arith, (number_appended first xs y n z h))
number_appended each xs y e3 z h = grind (arith, get_appended)

pub get_set : {X : Type 0} (xs : List X) (k : ℕ) (y : X) (n : ℕ) (z : X) → slice_get (set xs k y) n ≡ Some z → ((n ≡ k) × (y ≡ z))
    ⊎ ((n ≡ k → ⊥) × (slice_get xs n ≡ Some z))
get_set (x ∷ xs) (suc k) y (suc n) z h = grind (arith, (get_set xs k y n z h))
get_set each e1 y e3 z h = grind arith

pub number_set : {X : Type 0} (first : ℕ) (xs : List X) (i : ℕ) (y : X) (n : ℕ) (z : X) → at_number first (set xs i y) n ≡ Some z
    → ((n ≡ first + i) × (y ≡ z)) ⊎ ((n ≡ first + i → ⊥) × (at_number first xs n ≡ Some z))
number_set (suc first) xs i y (suc n) z h = grind (arith, (number_set first xs i y n z h))
number_set each xs i y e4 z h = grind (arith, get_set)

pub number_popped : {X : Type 0} (first : ℕ) (x : X) (xs : List X) (n : ℕ) (z : X) → at_number (suc first) xs n ≡ Some z
    → (at_number first (x ∷ xs) n ≡ Some z) × (n ≡ first → ⊥)
number_popped (suc first) x xs (suc n) z h = grind (arith, (number_popped first x xs n z h))
number_popped each x xs e3 z h = grind arith

pub number_front : {X : Type 0} (first : ℕ) (x : X) (xs : List X) → at_number first (x ∷ xs) first ≡ Some x
number_front zero x xs = refl
number_front (suc first) x xs = number_front first x xs

pub number_nothing : {X : Type 0} (first n : ℕ) (z : X) → at_number first (let none : List X = [] in none) n ≡ Some z → ⊥
number_nothing (suc first) (suc n) z h = number_nothing first n z h
number_nothing each e1 z h = grind arith

pub number_dropped : {X : Type 0} (k first : ℕ) (xs : List X) (n : ℕ) (z : X) → at_number (first + k) (drop k xs) n ≡ Some z
    → at_number first xs n ≡ Some z
number_dropped (suc k) first (x ∷ xs) n z h =
    let e : first + suc k ≡ suc first + k = omega arith in
    let more : at_number (suc first + k) (drop k xs) n ≡ Some z = rw e at h in
    (number_popped first x xs n z (number_dropped k (suc first) xs n z more)).0
number_dropped each first e2 n z h = grind (arith, number_nothing, number_popped)

pub number_read : {X : Type 0} (first : ℕ) (xs : List X) (n len : ℕ) (x : X) → len ≡ length xs → first ≤ n → n - first < len
    → x ≡ get_or xs (n - first) x → Some x ≡ at_number first xs n
number_read first xs n len x same h within is = sym (from_first first xs n h ∙ slice_get_read xs len (n - first) x same within is)

pub number_past : {X : Type 0} (first : ℕ) (xs : List X) (n len : ℕ) → len ≡ length xs → first ≤ n → len ≤ n - first → None ≡ at_number first xs n
number_past first xs n len same h past = sym (from_first first xs n h ∙ slice_get_past xs (n - first) (omega arith))

pub number_within : {X : Type 0} (first : ℕ) (xs : List X) (n : ℕ) (z : X) → at_number first xs n ≡ Some z → (first ≤ n) × (n < first + length xs)
number_within (suc first) xs (suc n) z h = let k = number_within first xs n z h in (omega (arith, k.0), omega (arith, k.1))
number_within each xs e2 z h = grind (arith, slice_get_within)

pub number_rest : {X : Type 0} (first : ℕ) (x : X) (xs : List X) (n : ℕ) (z : X) → at_number first (x ∷ xs) n ≡ Some z → ((n ≡ first) × (x ≡ z))
    ⊎ (at_number (suc first) xs n ≡ Some z)
number_rest (suc first) x xs (suc n) z h = grind (arith, (number_rest first x xs n z h))
number_rest each x xs e3 z h = grind arith

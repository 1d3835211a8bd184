-- The order of names in which one name and the next one have changed places.
use Rattle.uv_find.proofs.Names.{◌≡◌, ℕ, zero, suc, ◌+◌, ◌<◌, ◌≤◌, ◌==◌, true, false, List, [], ◌∷◌, length, if◌then◌else◌, refl, ap, ap₂, sym, ◌∙◌, Option, Some, arith, map, option_map, unwrap_or, eq-eqb, eqb-true, nat_tests, length-map, times, IsOrder, place_in, place_of}

abbrev pub swap : ℕ → List ℕ
swap zero = 1 ∷ 0 ∷ []
swap (suc a) = 0 ∷ map suc (swap a)

-- ---- numbers

no_zero : (x : ℕ) → (suc x == 0) ≡ false
no_zero x = grind (arith, nat_tests)

zero_no : (x : ℕ) → (0 == suc x) ≡ false
zero_no x = grind (arith, nat_tests)

one_no : (n : ℕ) → (1 == suc (suc n)) ≡ false
one_no n = grind (arith, nat_tests)

pub is_equal : (n m : ℕ) → (n == m) ≡ true → n ≡ m
is_equal n m e = eqb-true n m e

pub differs : (n m : ℕ) → (n == m) ≡ false → n ≡ m → ⊥
differs n m e same = let t : true ≡ false = sym (eq-eqb n m same) ∙ e in cc

-- ---- each number once

times_suc : (xs : List ℕ) (n : ℕ) → times (map suc xs) (suc n) ≡ times xs n
times_suc [] n = refl
times_suc (x ∷ xs) n = ap₂ (λ b t. if b then suc t else t) (grind arith) (times_suc xs n)

times_zero : (xs : List ℕ) → times (map suc xs) 0 ≡ 0
times_zero [] = refl
times_zero (x ∷ xs) = ap₂ (λ b t. if b then suc t else t) (no_zero x) (times_zero xs)

swap_long : (a : ℕ) → length (swap a) ≡ a + 2
swap_long zero = refl
swap_long (suc a) = let rest = swap_long a in omega (arith, rest, length-map (swap a) suc)

swap_once : (a n : ℕ) → n < a + 2 → times (swap a) n ≡ 1
swap_once (suc a) (suc n) below = simp (suc, times, map, zero_no, times_suc, (swap_once a n (omega (arith, below))))
swap_once each e1 below = grind (arith, times_zero, zero_no, times_suc)

swap_no_other : (a n : ℕ) → a + 2 ≤ n → times (swap a) n ≡ 0
swap_no_other (suc a) (suc n) past = simp (suc, times, map, zero_no, times_suc, (swap_no_other a n (omega (arith, past))))
swap_no_other each e1 past = grind arith

pub swap_order : (a : ℕ) → IsOrder (swap a)
swap_order a = grind (arith, swap_long, swap_once, swap_no_other)

pub swap_length : (a : ℕ) → length (swap a) ≡ a + 2
swap_length = swap_long

-- ---- where each goes

place_suc : (xs : List ℕ) (n : ℕ) → place_in (map suc xs) (suc n) ≡ place_in xs n
place_suc [] n = refl
place_suc (x ∷ xs) n = ap₂ (λ b (o : Option ℕ). if b then Some 0 else option_map suc o) (grind arith) (place_suc xs n)

or_suc : (o : Option ℕ) (n : ℕ) → unwrap_or (option_map suc o) (suc n) ≡ suc (unwrap_or o n)
or_suc o n = grind arith

goes_suc : (a n : ℕ) → place_of (swap (suc a)) (suc n) ≡ suc (place_of (swap a) n)
goes_suc a n = simp (zero_no, place_suc, or_suc)

beyond : (n : ℕ) → place_of (swap 0) (suc (suc n)) ≡ suc (suc n)
beyond n = simp (one_no, zero_no)

pub first_goes : (a : ℕ) → place_of (swap a) a ≡ a + 1
first_goes zero = refl
first_goes (suc a) = let more = first_goes a in goes_suc a a ∙ omega (arith, more)

pub second_goes : (a : ℕ) → place_of (swap a) (a + 1) ≡ a
second_goes zero = refl
second_goes (suc a) =
    let more = second_goes a in
    let one : suc a + 1 ≡ suc (a + 1) = omega arith in
    ap (place_of (swap (suc a))) one ∙ goes_suc a (a + 1) ∙ ap suc more

pub other_stays : (a n : ℕ) → (n ≡ a → ⊥) → (n ≡ a + 1 → ⊥) → place_of (swap a) n ≡ n
other_stays (suc a) (suc n) first second = simp (goes_suc, suc, (other_stays a n (λ e. first (ap suc e)) (λ e. second (omega (arith, e)))))
other_stays each e1 first second = grind arith

-- there and back
pub twice_stays : (a n : ℕ) → place_of (swap a) (place_of (swap a) n) ≡ n
twice_stays (suc a) (suc n) = ap (place_of (swap (suc a))) (goes_suc a n) ∙ goes_suc a (place_of (swap a) n) ∙ ap suc (twice_stays a n)
twice_stays each e1 = grind arith

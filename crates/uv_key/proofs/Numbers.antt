-- The bytes of a number tell which one it is.
use Rattle.std.proofs.Common.{arith, ◌≡◌, ◌⊎◌, inl, inr, ℕ, zero, suc, ◌+◌, ◌*◌, ◌^◌, ◌<◌, ◌≤◌, ◌/◌, ◌%◌, length, true, false, cond, nat_lt, List, [], ◌∷◌, ◌++◌, refl, ap, sym, ◌∙◌, append_assoc}
use Rattle.std.proofs.lemmas.Bool.{cases_lt}
use Rattle.std.proofs.lemmas.Nat.{div_below, div-add-mod'}
use Rattle.uv_key.specs.Codes.{digits, number_code, Tells}

below : (n m : ℕ) → n < m → nat_lt n m ≡ true
below n m l = grind (arith, l)

above : (n m : ℕ) → m ≤ n → nat_lt n m ≡ false
above n m l = grind (arith, l)

less : (n f : ℕ) → n ≤ suc f → n / 128 ≤ f
less n f l = let h : n < suc f * 128 = omega (arith, l) in let d = div_below n 128 (suc f) (omega arith) h in omega (arith, d)

-- any bound will do
digits_same : (f g n : ℕ) → n ≤ f → n ≤ g → digits f n ≡ digits g n
digits_same zero zero n a b = refl
digits_same zero (suc g) n a b = rw (below n 128 (omega (arith, a))) refl
digits_same (suc f) zero n a b = rw (below n 128 (omega (arith, b))) refl
digits_same (suc f) (suc g) n a b =
    ap (λ ds. cond (nat_lt n 128) (n ∷ []) ((n % 128 + 128) ∷ ds)) (digits_same f g (n / 128) (less n f a) (less n g b))

pub number_small : (n : ℕ) → n < 128 → number_code n ≡ n ∷ []
unfolding number_code
number_small zero l = refl
number_small (suc n) l = rw (below (suc n) 128 l) refl

pub number_large : (n : ℕ) → 128 ≤ n → number_code n ≡ (n % 128 + 128) ∷ number_code (n / 128)
unfolding number_code
number_large zero l = absurd (let f : ⊥ = omega (arith, l) in f)
number_large (suc n) l =
    rw (above (suc n) 128 l) (ap (λ ds. (suc n % 128 + 128) ∷ ds)
    (digits_same n (suc n / 128) (suc n / 128) (less (suc n) n (omega arith)) (omega arith)))

-- one number and another, where the rest of larger ones tells
one_tells : (a b : ℕ) (x y : List ℕ) → (128 ≤ a → number_code (a / 128) ++ x ≡ number_code (b / 128) ++ y → (a / 128 ≡ b / 128) × (x ≡ y)) →
    number_code a ++ x ≡ number_code b ++ y → (a ≡ b) × (x ≡ y)
one_tells a b x y rest e = by (cases_lt a 128) (cases_lt b 128) where
  by : (a < 128) ⊎ (128 ≤ a) → (b < 128) ⊎ (128 ≤ b) → (a ≡ b) × (x ≡ y)
  by (inl c) (inl d) =
      let s : ◌≡◌ {A = List ℕ} (a ∷ x) (b ∷ y) = sym (ap (λ ds. ds ++ x) (number_small a c)) ∙ e ∙ ap (λ ds. ds ++ y) (number_small b d) in
      (let h : a ≡ b = cc s in h, let t : x ≡ y = cc s in t)
  by (inl c) (inr d) =
      let s : ◌≡◌ {A = List ℕ} (a ∷ x) ((b % 128 + 128) ∷ (number_code (b / 128) ++ y)) =
      sym (ap (λ ds. ds ++ x) (number_small a c)) ∙ e ∙ ap (λ ds. ds ++ y) (number_large b d) in
      let h : a ≡ b % 128 + 128 = cc s in absurd (let f : ⊥ = omega (arith, h, c) in f)
  by (inr c) (inl d) =
      let s : ◌≡◌ {A = List ℕ} ((a % 128 + 128) ∷ (number_code (a / 128) ++ x)) (b ∷ y) =
      sym (ap (λ ds. ds ++ x) (number_large a c)) ∙ e ∙ ap (λ ds. ds ++ y) (number_small b d) in
      let h : a % 128 + 128 ≡ b = cc s in absurd (let f : ⊥ = omega (arith, h, d) in f)
  by (inr c) (inr d) =
      let s : ◌≡◌ {A = List ℕ} ((a % 128 + 128) ∷ (number_code (a / 128) ++ x)) ((b % 128 + 128) ∷ (number_code (b / 128) ++ y)) =
      sym (ap (λ ds. ds ++ x) (number_large a c)) ∙ e ∙ ap (λ ds. ds ++ y) (number_large b d) in
      let low : a % 128 + 128 ≡ b % 128 + 128 = cc s in
      let more : number_code (a / 128) ++ x ≡ number_code (b / 128) ++ y = cc s in
      let high = rest c more in
      (let h : a ≡ b = omega (arith, low, high.0, div-add-mod' a 128, div-add-mod' b 128) in h, high.1)

tells_upto : (m a b : ℕ) (x y : List ℕ) → a ≤ m → number_code a ++ x ≡ number_code b ++ y → (a ≡ b) × (x ≡ y)
tells_upto zero a b x y l e = one_tells a b x y (λ large r. absurd (let f : ⊥ = omega (arith, l, large) in f)) e
tells_upto (suc m) a b x y l e = one_tells a b x y (λ large r. tells_upto m (a / 128) (b / 128) x y (less a m l) r) e

pub numbers_tell : Tells number_code
numbers_tell a b x y e = tells_upto a a b x y (omega arith) e

-- ---- a number is written: what was written, with what is left, is the whole

-- one more byte
pub one_byte : (out more start : List ℕ) (n rest : ℕ) → 128 ≤ rest → more ≡ out ++ (rest % 128 + 128) ∷ [] →
    out ++ number_code rest ≡ start ++ number_code n → more ++ number_code (rest / 128) ≡ start ++ number_code n
one_byte out more start n rest l e k =
    ap (λ ds. ds ++ number_code (rest / 128)) e ∙ append_assoc out ((rest % 128 + 128) ∷ []) (number_code (rest / 128))
    ∙ ap (λ ds. out ++ ds) (sym (number_large rest l)) ∙ k

-- the last byte
pub last_byte : (out more start : List ℕ) (n rest : ℕ) → rest < 128 → more ≡ out ++ rest ∷ [] →
    out ++ number_code rest ≡ start ++ number_code n → more ≡ start ++ number_code n
last_byte out more start n rest l e k = e ∙ ap (λ ds. out ++ ds) (sym (number_small rest l)) ∙ k

-- ---- how many bytes

pub length-small : (n : ℕ) → n < 128 → length (number_code n) ≡ 1
length-small n l = ap length (number_small n l)

pub length-large : (n : ℕ) → 128 ≤ n → length (number_code n) ≡ length (number_code (n / 128)) + 1
length-large n l = ap length (number_large n l) ∙ omega arith

-- at most so many and one
length_upto : (k n : ℕ) → n < 128 ^ k * 128 → length (number_code n) ≤ k + 1
length_upto zero n l = let one = length-small n (omega (arith, l)) in omega (arith, one)
length_upto (suc k) n l = by (cases_lt n 128) (length_upto k (n / 128)) where
  by : (n < 128) ⊎ (128 ≤ n) → (n / 128 < 128 ^ k * 128 → length (number_code (n / 128)) ≤ k + 1) → length (number_code n) ≤ suc k + 1
  by (inl c) more = let one = length-small n c in omega (arith, one)
  by (inr c) more =
      let h : n < (128 ^ k * 128) * 128 = omega (arith, l) in
      let rest = more (div_below n 128 (128 ^ k * 128) (omega arith) h) in
      let one = length-large n c in
      omega (arith, rest, one)

-- a number of 64 bits is ten bytes at most
pub length-number : (n : ℕ) → n < 2 ^ 64 → length (number_code n) ≤ 10
length-number n l = length_upto 9 n (omega (arith, l))

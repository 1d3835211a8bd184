-- One number more behind those from 0 on.
use Rattle.uv_live.proofs.Names.{ℕ, zero, suc, ◌≡◌, ◌+◌, ◌++◌, ◌∷◌, List, [], Some, length, map, slice_get, arith, AreNumbered}

more : {X : Type 0} (f : X → ℕ) (m : ℕ) (xs : List X) (x : X) → ((k n : ℕ) → slice_get (map f xs) k ≡ Some n → n ≡ m + k) →
    f x ≡ m + length xs → (k n : ℕ) → slice_get (map f (xs ++ x ∷ [])) k ≡ Some n → n ≡ m + k
more f m [] x h is zero n e = grind arith
more f m [] x h is (suc k) n e = grind arith
more f m (y ∷ xs) x h is zero n e = h zero n e
more {X} f m (y ∷ xs) x h is (suc k) n e = let r = more f (m + 1) xs x behind (omega (arith, is)) k n e in omega (arith, r) where
  behind : (i j : ℕ) → slice_get (map f xs) i ≡ Some j → j ≡ (m + 1) + i
  behind i j g = let r = h (suc i) j g in omega (arith, r)

-- what is put behind them has the next number
pub numbered_more : {X : Type 0} (f : X → ℕ) (xs : List X) (x : X) → AreNumbered (map f xs) → f x ≡ length xs →
    AreNumbered (map f (xs ++ x ∷ []))
numbered_more f xs x h is k n e = let r = more f 0 xs x from (omega (arith, is)) k n e in omega (arith, r) where
  from : (i j : ℕ) → slice_get (map f xs) i ≡ Some j → j ≡ 0 + i
  from i j g = let r = h i j g in omega (arith, r)

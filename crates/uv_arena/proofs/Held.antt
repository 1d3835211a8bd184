-- How many slots hold something of a kind.
use Rattle.uv_arena.proofs.ProofNames.{arith, ◌≡◌, ℕ, ◌+◌, ◌≤◌, zero, suc, Bool, true, false, List, [], ◌∷◌, ◌++◌, Option, Some, IfSome, map, length, refl, sym, ap, slice_get, slice_set, nat_lt, ◌<◌, ◌^◌, length-append, list_any, Slot, one_if, Fits32, Cell, one_of, count_of}

module _ {X : Type 0} (such : Option X → Bool) where
  -- one cell is another now
  pub count_set : (xs : List (Cell X)) (i : ℕ) (was now : Cell X) → slice_get xs i ≡ Some was →
      count_of such (slice_set xs i now) + one_of such was ≡ count_of such xs + one_of such now
  count_set [] i was now e = grind arith
  count_set (x ∷ xs) zero was now e = grind arith
  count_set (x ∷ xs) (suc i) was now e = grind (arith, count_set xs i was now e)

  -- one cell is another now that holds the same
  pub count_kept : (xs : List (Cell X)) (i : ℕ) (now : Cell X) → IfSome (slice_get xs i) (λ (was : Cell X). was.slot.content ≡ now.slot.content)
      → count_of such (slice_set xs i now) ≡ count_of such xs
  count_kept [] i now e = refl
  count_kept (x ∷ xs) zero now e = ap (λ (o : Option X). one_if (such o) + count_of such xs) (sym e)
  count_kept (x ∷ xs) (suc i) now e = ap (λ n. one_of such x + n) (count_kept xs i now e)

  -- there is one cell more
  pub count_push : (xs : List (Cell X)) (x : Cell X) → count_of such (xs ++ x ∷ []) ≡ count_of such xs + one_of such x
  count_push [] x = grind arith
  count_push (y ∷ xs) x = grind (arith, count_push xs x)

  -- there are no more of them than cells
  pub count_within : (xs : List (Cell X)) → count_of such xs ≤ length xs
  count_within [] = grind arith
  count_within (x ∷ xs) = by (such x.slot.content) (count_within xs) where
    by : (b : Bool) → count_of such xs ≤ length xs → one_if b + count_of such xs ≤ length (x ∷ xs)
    by true h = grind (arith, h)
    by false h = grind (arith, h)

  -- also where one of these is another
  pub count_within_set : (xs : List (Cell X)) (i : ℕ) (x : Cell X) → count_of such (slice_set xs i x) ≤ length xs
  count_within_set xs i x = let h = count_within (slice_set xs i x) in rw (sym (same_length xs i x)) h where
    same_length : (ys : List (Cell X)) (j : ℕ) (y : Cell X) → length (slice_set ys j y) ≡ length ys
    same_length [] j y = refl
    same_length (z ∷ ys) zero y = refl
    same_length (z ∷ ys) (suc j) y = grind (arith, same_length ys j y)

  -- the count can be taken anew
  pub fits_set : (xs : List (Cell X)) (i : ℕ) (was now : Cell X) → slice_get xs i ≡ Some was → length xs < 2 ^ 32
      → Fits32 (count_of such xs) (one_of such was) (one_of such now)
  fits_set xs i was now e few =
      (count_of such (slice_set xs i now), count_set xs i was now e, omega (arith, count_within_set xs i now, few))

  pub fits_push : (xs : List (Cell X)) (x : Cell X) → length xs + 1 < 2 ^ 32 → Fits32 (count_of such xs) 0 (one_of such x)
  fits_push xs x few =
      let more = xs ++ x ∷ [] in
      (count_of such more, omega (arith, count_push xs x), omega (arith, count_within more, length-append xs (x ∷ []), few))

  -- there is one where the count isn't 0
  pub any_counted : (xs : List (Cell X)) → nat_lt 0 (count_of such xs) ≡ list_any (λ (s : Slot X). such s.content) (map (λ (c : Cell X). c.slot) xs)
  any_counted [] = refl
  any_counted (x ∷ xs) = grind (arith, any_counted xs)

-- How many workers are busy, and how many requests wait.
use Rattle.std.proofs.Common.{◌≡◌, ◌||◌, ℕ, zero, suc, ◌+◌, Bool, true, false, cond, List, [], ◌∷◌, length, set, slice_get, Option, Some, None, arith}
use Rattle.uv_ids.specs.declared.id.Id.{Id}
use Rattle.uv_work.specs.Ids.{same_id}
use Rattle.uv_work.specs.Pool.{busy, waits, without}

pub busy_set_some : (ws : List (Option Id)) (k : ℕ) (d : Id) → slice_get ws k ≡ Some None → busy (set ws k (Some d)) ≡ busy ws + 1
busy_set_some [] k d e = cc
busy_set_some (None ∷ ws) zero d e = omega arith
busy_set_some (Some x ∷ ws) zero d e = cc
busy_set_some (None ∷ ws) (suc k) d e = busy_set_some ws k d e
busy_set_some (Some x ∷ ws) (suc k) d e = let rest = busy_set_some ws k d e in omega (arith, rest)

pub busy_set_none : (ws : List (Option Id)) (k : ℕ) (d : Id) → slice_get ws k ≡ Some (Some d) → busy (set ws k None) + 1 ≡ busy ws
busy_set_none [] k d e = cc
busy_set_none (None ∷ ws) zero d e = cc
busy_set_none (Some x ∷ ws) zero d e = omega arith
busy_set_none (None ∷ ws) (suc k) d e = busy_set_none ws k d e
busy_set_none (Some x ∷ ws) (suc k) d e = let rest = busy_set_none ws k d e in omega (arith, rest)

-- without one that waits there is one less
pub without_one : (xs : List Id) (id : Id) → waits xs id ≡ true → length (without xs id) + 1 ≡ length xs
without_one [] id e = cc
without_one (x ∷ xs) id e = at (same_id x id) e (without_one xs id) where
  at : (b : Bool) → (b || waits xs id) ≡ true → (waits xs id ≡ true → length (without xs id) + 1 ≡ length xs) →
      length (cond b xs (x ∷ without xs id)) + 1 ≡ length (x ∷ xs)
  at true f rest = omega arith
  at false f rest = let one = rest f in omega (arith, one)

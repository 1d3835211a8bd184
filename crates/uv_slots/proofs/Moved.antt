-- An order of all slots, once their numbers are where another order puts them.
use Rattle.uv_slots.proofs.Names.{◌≡◌, ℕ, suc, List, ◌∷◌, Some, slice_get, arith, slice_get_cases, times, IsOrder, place_in, place_of}
use Rattle.uv_slots.proofs.Orders.{place_behind, number_at}

-- ---- what stands at a place

pub stands : (o : List ℕ) (m n : ℕ) → slice_get o m ≡ Some n → times o n ≡ 0 → ⊥
stands (k ∷ ks) (suc m) n e none = grind (arith, stands ks m n)
stands each e1 n e none = grind arith

pub placed_once : (o : List ℕ) (m n : ℕ) → slice_get o m ≡ Some n → times o n ≡ 1 → place_in o n ≡ Some m
placed_once (k ∷ ks) (suc m) n e once = grind (arith, stands ks m n, placed_once ks m n)
placed_once each e1 n e once = grind arith

-- its place is that place
pub place_number : (o : List ℕ) (m : ℕ) → IsOrder o → place_of o (number_at o m) ≡ m
place_number o m h = grind (arith, placed_once, stands, place_behind, slice_get_cases)

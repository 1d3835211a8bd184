-- How a search begins.
use Rattle.uv_search.proofs.Names.{◌≡◌, ℕ, List, [], ap, arith, length, refl, Enters, Entered, There, New, Full}
use Rattle.uv_search.proofs.KeyLists.{get_below}

-- where the first key isn't kept, none may be
pub none_entered : (old : List (List ℕ)) (key : List ℕ) (limit : ℕ) (new : List (List ℕ)) (e : Entered) → (e ≡ New → ⊥) → old ≡ []
    → Enters old key limit e new → limit ≡ 0
none_entered old key limit new each other none e7 = grind arith

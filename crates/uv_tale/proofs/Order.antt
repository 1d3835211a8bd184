-- Places of an order.
use Rattle.uv_tale.proofs.Names.{◌≡◌, ℕ, List, arith, IsOrder, place_of, same_place, nat_tests}

-- no two numbers have one place
pub one_place : (o : List ℕ) (a b : ℕ) → IsOrder o → place_of o a ≡ place_of o b → a ≡ b
one_place o a b h e = grind (arith, nat_tests, same_place o a b h)

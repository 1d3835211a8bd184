-- An offer that may be taken once less, and once more again.
use Rattle.uv_find.proofs.Names.{arith, ◌≡◌, ℕ, suc, ◌≤◌, List, ◌∷◌, length, get_or, slice_set, ap, Left}

pub set_twice : (xs : List Left) (number : ℕ) (x y : Left) → slice_set (slice_set xs number y) number x ≡ slice_set xs number x
set_twice (z ∷ zs) (suc number) x y = ap (λ rest. z ∷ rest) (set_twice zs number x y)
set_twice each e1 x y = assumption

pub set_itself : (xs : List Left) (number : ℕ) (x : Left) → x ≡ get_or xs number x → slice_set xs number x ≡ xs
set_itself (y ∷ ys) (suc number) x e = ap (λ rest. y ∷ rest) (set_itself ys number x e)
set_itself each e1 x e = grind arith

pub set_beyond : (xs : List Left) (number : ℕ) (x : Left) → length xs ≤ number → slice_set xs number x ≡ xs
set_beyond (y ∷ ys) (suc number) x l = ap (λ rest. y ∷ rest) (set_beyond ys number x (omega (arith, l)))
set_beyond each e1 x l = grind arith

-- What is found or not, and what is chosen, where both ways go on alike.
use Rattle.uv_apart.proofs.Names.{◌≡◌, Bool, true, false, Option, Some, None, refl, if◌then◌else◌, found_or}

pub by_found : {A B D : Type 0} (to : B → D) (o : Option A) {f : A → B} {f' : A → D} {other : B} {other' : D} →
    ((x : A) → o ≡ Some x → f' x ≡ to (f x)) → other' ≡ to other → found_or o f' other' ≡ to (found_or o f other)
by_found to None h k = k
by_found to (Some x) h k = h x refl

pub by_test : {B D : Type 0} (to : B → D) (b : Bool) {x y : B} {x' y' : D} → x' ≡ to x → y' ≡ to y →
    (if b then x' else y') ≡ to (if b then x else y)
by_test to true h k = h
by_test to false h k = k

pub found_both : {A B : Type 0} (P : B → Type 0) (o : Option A) {f : A → B} {other : B} → ((x : A) → P (f x)) → P other → P (found_or o f other)
found_both P None h k = k
found_both P (Some x) h k = h x

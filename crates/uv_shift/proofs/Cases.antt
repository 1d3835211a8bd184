-- What is chosen, where both ways go on alike.
use Rattle.uv_shift.proofs.Names.{◌≡◌, Bool, true, false, if◌then◌else◌}

if_cases : {A B : Type 0} (S : A → B) (b : Bool) (x y : A) (x' y' : B) → x' ≡ S x → y' ≡ S y →
    (if b then x' else y') ≡ S (if b then x else y)
if_cases S true x y x' y' h k = h
if_cases S false x y x' y' h k = k

pub if_shift : {A B : Type 0} (S : A → B) (b b' : Bool) (x y : A) (x' y' : B) → b' ≡ b → x' ≡ S x → y' ≡ S y →
    (if b' then x' else y') ≡ S (if b then x else y)
if_shift S b b' x y x' y' same h k = rw same (if_cases S b x y x' y' h k)

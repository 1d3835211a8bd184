-- What is done with something that may be found or not, by cases.
use Rattle.uv_model.proofs.Names.{◌≡◌, Option, Some, None, refl, found_or}

pub found_both : {A B : Type 0} (o : Option A) (f : A → B) (other : B) (P : B → Type 0) → ((x : A) → o ≡ Some x → P (f x)) → (o ≡ None → P other) →
    P (found_or o f other)
found_both (Some x) f other P h k = h x refl
found_both None f other P h k = k refl

-- Equal bytes of what is told of two states are equal tales.
use Rattle.uv_state_key.proofs.Names.{◌≡◌, ℕ, List, ◌++◌, Option, Some, None, ap, State, base, tale, key_code, IsTold}
use Rattle.uv_state_key.specs.Formed.{Whole, Told, formed}
use Rattle.uv_state_key.proofs.States.{states_tell}
use Rattle.uv_state_key.proofs.TaleTells.{tale_fits, tale_tells}

pub forms_tell : (most : Option ℕ) (s t : State) (x y : List ℕ) → IsTold s → IsTold t → key_code most s ++ x ≡ key_code most t ++ y →
    (formed most s ≡ formed most t) × (x ≡ y)
forms_tell None s t x y h k e = (let r = states_tell s t x y h k e in (ap Whole r.0, r.1))
forms_tell (Some n) s t x y h k e =
    let r = tale_tells (tale n s) (tale n t) x y (tale_fits (base s) n s h) (tale_fits (base t) n t k) e in
    (ap Told r.0, r.1)

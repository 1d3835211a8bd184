-- A handle put at the end of a list, and taken off again.
use Rattle.uv_plain.proofs.Names.{◌≡◌, ◌-◌, List, [], ◌∷◌, ◌++◌, length, take, ap, arith, common_steps, Id, Walk, with_last}

pub popped : (w : Walk Id) (id : Id) → record (with_last w id) { list = take (length (w.list ++ id ∷ []) - 1) (w.list ++ id ∷ []) } ≡ w
popped w id = ap (λ (ids : List Id). record w { list = ids }) (grind (arith, common_steps))

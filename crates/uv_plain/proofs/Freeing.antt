-- The slot that is taken next.
use Rattle.uv_plain.proofs.Names.{◌≡◌, ℕ, List, [], ◌∷◌, Some, option_and_then, slice_get, refl, Slots, next_id, next_free, id_of}

pub next_free_front : {X : Type 0} (s : Slots X) (n : ℕ) → slice_get s.free 0 ≡ Some n
    → next_free s ≡ option_and_then (λ slot. Some (id_of n slot)) (slice_get s.slots n)
next_free_front {X} s n e = at s.free e where
  at : (free : List ℕ) → slice_get free 0 ≡ Some n → next_id s.slots s.unused free ≡ option_and_then (λ slot. Some (id_of n slot))
      (slice_get s.slots n)
  at [] f = cc f
  at (m ∷ ms) f = let same : m ≡ n = cc f in rw same refl

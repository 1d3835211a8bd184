-- What comes of a key.
use Rattle.std.specs.Prelude.{◌≡◌, ℕ, ◌<◌, ◌≤◌, List, [], ◌∷◌, ◌++◌, Some, slice_get, length}
use Rattle.uv_search.specs.Keys.{Has}
use Rattle.uv_search.specs.declared.seen.Entered.{Entered}
use Rattle.uv_search.specs.declared.seen.Entered.TheVariants.{There, New, Full}

-- where there were these keys, and may be fewer than so many more
abbrev pub Enters : List (List ℕ) → List ℕ → ℕ → Entered → List (List ℕ) → Type 0
Enters old key limit (There number) new = (slice_get old number ≡ Some key) × (new ≡ old)
Enters old key limit New new = (Has old key → ⊥) × (length old < limit) × (new ≡ old ++ key ∷ [])
Enters old key limit Full new = (Has old key → ⊥) × (limit ≤ length old) × (new ≡ old)

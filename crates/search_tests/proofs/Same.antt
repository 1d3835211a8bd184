-- Equal keys are equal stairs.
use Rattle.std.proofs.Common.{◌≡◌, ℕ, Bool, List, [], ◌∷◌, Option, Some, None, refl, subst}
use Rattle.uv_search.specs.Ways.{CoversMoves, CoversStep}
use Rattle.search_tests.specs.Stair.{next_stair}

itself : (key : ℕ → List ℕ) (o : Option (ℕ × Bool)) → CoversStep key o o
itself key None = tt
itself key (Some (m, b)) = (refl, refl)

pub same_stairs : (goal p q : ℕ) → Unit {0} → Unit {0} → ◌≡◌ {A = List ℕ} (p ∷ []) (q ∷ []) → CoversMoves (λ _. 3) (next_stair goal) (λ p. p ∷ []) p q
same_stairs goal p q u v e =
    let same : p ≡ q = cc in (
      refl,
      λ i below. subst (λ x. CoversStep (λ y. y ∷ []) (next_stair goal p i) (next_stair goal x i)) same
          (itself (λ y. y ∷ []) (next_stair goal p i)),
    )

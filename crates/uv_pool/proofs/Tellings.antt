-- What a gate was told, one after another.
use Rattle.uv_pool.proofs.Names.{◌≡◌, ℕ, List, [], ◌∷◌, ◌++◌, refl, sym, ◌∙◌, ap, append-nil, append_assoc, subst, Id, PoolEvent, IsTold, TellsOf}
use Rattle.uv_work.specs.declared.event.PoolEvent.TheVariants as event

module _ {G : Type 0} (begins ends : G → ℕ → Id → G → Type 0) where
  -- of some events, and then of others
  told_both : (g h i : G) (xs ys : List PoolEvent) → IsTold begins ends g xs h → IsTold begins ends h ys i → IsTold begins ends g (xs ++ ys) i
  told_both g h i [] ys a b = subst (λ from. IsTold begins ends from ys i) a b
  told_both g h i (event.Take k id ∷ more) ys a b = (a.0, a.1, told_both a.0 h i more ys a.2 b)
  told_both g h i (event.Finish k id ∷ more) ys a b = (a.0, a.1, told_both a.0 h i more ys a.2 b)
  told_both g h i (event.Queue id ∷ more) ys a b = absurd a
  told_both g h i (event.Cancel id ∷ more) ys a b = absurd a
  told_both g h i (event.Collect id ∷ more) ys a b = absurd a

  -- meanwhile, and then meanwhile
  pub tells_both : (r s t : List PoolEvent) (g h i : G) → TellsOf begins ends r s g h → TellsOf begins ends s t h i → TellsOf begins ends r t g i
  tells_both r s t g h i (xs, x, a) (ys, y, b) = (
    xs ++ ys,
    y ∙ (ap (λ (l : List PoolEvent). l ++ ys) x ∙ append_assoc r xs ys),
    told_both g h i xs ys a b,
  )

  -- the same, where what it began with is another word for what was answered before
  pub tells_more : (q r s t : List PoolEvent) (g h i : G) → r ≡ q → TellsOf begins ends r s g h → TellsOf begins ends s t h i
      → TellsOf begins ends q t g i
  tells_more q r s t g h i is a b = subst (λ (l : List PoolEvent). TellsOf begins ends l t g i) is (tells_both r s t g h i a b)

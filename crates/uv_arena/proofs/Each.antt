-- A function applied at each index.
use Rattle.uv_arena.proofs.ProofNames.{◌≡◌, ◌≢◌, ℕ, zero, suc, List, [], ◌∷◌, length, set, slice_get, Some, refl, sym, ap, ◌∙◌, arith, each}

module _ {X : Type 0} where
  pub get-each : (f : ℕ → X → X) (xs : List X) (j : ℕ) (x : X) → slice_get xs j ≡ Some x → slice_get (each f xs) j ≡ Some (f j x)
  get-each f [] j x e = cc
  get-each f (y ∷ ys) zero x e = let same : y ≡ x = cc in ap (λ v. Some (f 0 v)) same
  get-each f (y ∷ ys) (suc j) x e = get-each (λ i. f (suc i)) ys j x e

  pub get-each_back : (f : ℕ → X → X) (xs : List X) (j : ℕ) (z : X) → slice_get (each f xs) j ≡ Some z
      → (x : X) × (slice_get xs j ≡ Some x) × (z ≡ f j x)
  get-each_back f [] j z e = cc
  get-each_back f (y ∷ ys) zero z e = (y, refl, cc)
  get-each_back f (y ∷ ys) (suc j) z e = get-each_back (λ i. f (suc i)) ys j z e

  pub each-each : (f g : ℕ → X → X) (xs : List X) → each g (each f xs) ≡ each (λ j x. g j (f j x)) xs
  each-each f g [] = refl
  each-each f g (x ∷ xs) = ap (λ l. g 0 (f 0 x) ∷ l) (each-each (λ j. f (suc j)) (λ j. g (suc j)) xs)

  pub each-agree : (f g : ℕ → X → X) (xs : List X) → ((j : ℕ) (x : X) → slice_get xs j ≡ Some x → f j x ≡ g j x) → each f xs ≡ each g xs
  each-agree f g [] h = refl
  each-agree f g (x ∷ xs) h = λ i. h 0 x refl i ∷ each-agree (λ j. f (suc j)) (λ j. g (suc j)) xs (λ j y e. h (suc j) y e) i

  pub each-same : (f : ℕ → X → X) (xs : List X) → ((j : ℕ) (x : X) → slice_get xs j ≡ Some x → f j x ≡ x) → each f xs ≡ xs
  each-same f [] h = refl
  each-same f (x ∷ xs) h = λ i. h 0 x refl i ∷ each-same (λ j. f (suc j)) xs (λ j y e. h (suc j) y e) i

  pub length-each : (f : ℕ → X → X) (xs : List X) → length (each f xs) ≡ length xs
  length-each f [] = refl
  length-each f (x ∷ xs) = ap suc (length-each (λ j. f (suc j)) xs)

  -- one place is written
  pub set-as : (xs : List X) (i : ℕ) (x v : X) (f : ℕ → X → X) → slice_get xs i ≡ Some x → f i x ≡ v → ((j : ℕ) (y : X) → i ≢ j → f j y ≡ y)
      → set xs i v ≡ each f xs
  set-as [] i x v f g e h = cc
  set-as (y ∷ ys) zero x v f g e h =
      let same : y ≡ x = cc in (λ i. sym e i ∷ ys)
      ∙ (λ i. f 0 (sym same i) ∷ sym (each-same (λ j. f (suc j)) ys (λ j z w. h (suc j) z (λ q. absurd (omega arith)))) i)
  set-as (y ∷ ys) (suc i) x v f g e h =
      (λ k. sym (h 0 y (λ q. absurd (omega arith))) k ∷ set-as ys i x v (λ j. f (suc j)) g e (λ j z n. h (suc j) z (λ q. n (omega arith))) k)

-- A list of slots without one of them, and the ids of these slots without the one's.
use Rattle.uv_stands.proofs.ProofNames.{◌≡◌, ℕ, Bool, true, false, if◌then◌else◌, not, eqb, List, [], ◌∷◌, map, refl, sym, ap, ◌∙◌, inl, inr, eqb_tells, Id, without, same_itself, not_same, same_id, without_id}

module _ (f : ℕ → Id) (d : Id) (slots : (x : ℕ) → (f x).slot ≡ x) (one : f d.slot ≡ d) where
  same_at : (x : ℕ) → same_id (f x) d ≡ eqb x d.slot
  same_at x = elim (eqb_tells x d.slot) [
    | inl y ↦ ap (λ z. same_id z d) (ap f y.1 ∙ one) ∙ same_itself d ∙ sym y.0
    | inr n ↦ not_same (f x) d (λ q. n.1 (sym (slots x) ∙ ap (λ (z : Id). z.slot) q)) ∙ sym n.0
  ]

  cut_at : (b : Bool) (x : ℕ) (ys : List ℕ) → (if not b then f x ∷ map f ys else map f ys) ≡ map f (if not b then x ∷ ys else ys)
  cut_at true x ys = refl
  cut_at false x ys = refl

  pub without_ids : (xs : List ℕ) → without_id (map f xs) d ≡ map f (without eqb xs d.slot)
  without_ids [] = refl
  without_ids (x ∷ xs) =
      let here = same_at x in
      let rest = without_ids xs in
      (λ l. if not (here l) then f x ∷ rest l else rest l) ∙ cut_at (eqb x d.slot) x (without eqb xs d.slot)

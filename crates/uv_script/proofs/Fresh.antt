-- One more name.
use Rattle.uv_script.proofs.ProofNames.{if◌then◌else◌, ◌≡◌, ◌≢◌, ℕ, suc, ◌<◌, false, List, [], ◌∷◌, ◌++◌, length, map, Contains, refl, ap, ◌∙◌, subst, arith, length-append, list_any, bytes_eq, cases_Bool, map-append, All-push, Contains-get_or, all_pairs_push, bytes_eq-Decides, insert_key, MOST_NAMES, AreNames, IsName}

-- a name that isn't there is told from each that is
none_equal : {A : Type 0} (f : A → List ℕ) (ks : List A) (name : List ℕ) → (Contains (map f ks) name → ⊥) →
    list_any (λ x. bytes_eq name (f x)) ks ≡ false
none_equal f [] name fresh = refl
none_equal f (x ∷ ks) name fresh =
    grind (arith, cases_Bool, bytes_eq-Decides, (none_equal f ks name (λ h. fresh (suc h.0, omega (arith, h.1), h.2))))

-- so it goes behind the others
pub goes_last : {A : Type 0} (f : A → List ℕ) (ks : List A) (k : A) (name : List ℕ) → f k ≡ name → (Contains (map f ks) name → ⊥) →
    map f (insert_key (λ x y. bytes_eq (f x) (f y)) ks k) ≡ map f ks ++ name ∷ []
goes_last f ks k name is fresh =
    ap (λ b. map f (if b then ks else ks ++ k ∷ [])) (ap (λ n. list_any (λ y. bytes_eq n (f y)) ks) is ∙ none_equal f ks name fresh)
    ∙ map-append f ks (k ∷ []) ∙ ap (λ n. map f ks ++ n ∷ []) is

-- and they are still names
pub AreNames-push : (names : List (List ℕ)) (name : List ℕ) → AreNames names → IsName name → (Contains names name → ⊥) → length names < MOST_NAMES →
    AreNames (names ++ name ∷ [])
AreNames-push names name are is fresh room = record {
  each = All-push IsName names name are.each is;
  distinct = all_pairs_push (λ a b. a ≢ b) names name are.distinct (λ k d h e. fresh (subst (Contains names) e (Contains-get_or names k d h)));
  few = simp length-append (omega arith);
}

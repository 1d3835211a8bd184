-- The place of a name among names.
use Rattle.uv_script.proofs.ProofNames.{◌≡◌, ℕ, ◌+◌, Bool, not, cond, List, [], ◌∷◌, map, get_or, Some, None, slice_get, option_map, Contains, refl, ap, sym, ◌∙◌, arith, length-map, position, prefix_len, bytes_eq, Var, IsDeclared, common_steps, position-Some, prefix_len_passes, slice_get-get_or, bytes_eq-Decides}
use Rattle.uv_script.specs.Reading.{place_of}

abbrev as_var : ℕ → Var
as_var n = record { 0 = n }

prefix_len-map : {A B : Type 0} (f : A → B) (p : B → Bool) (xs : List A) → prefix_len p (map f xs) ≡ prefix_len (λ x. p (f x)) xs
prefix_len-map f p [] = refl
prefix_len-map f p (x ∷ xs) = ap (λ n. cond (p (f x)) (1 + n) 0) (prefix_len-map f p xs)

-- a test of what the elements are seen as
pub position-map : {A B : Type 0} (f : A → B) (p : B → Bool) (xs : List A) → position p (map f xs) ≡ position (λ x. p (f x)) xs
position-map f p xs = simp (prefix_len-map f (λ x. not (p x)) xs, length-map)

-- the place that a search finds is the name's
pub position-is_place : (names : List (List ℕ)) (name : List ℕ) (i : ℕ) → position (bytes_eq name) names ≡ Some i → slice_get names i ≡ Some name
position-is_place names name i e =
    let at = position-Some (bytes_eq name) names i [] e in
    let same = (bytes_eq-Decides name (get_or names i [])).0 at.1 in
    slice_get-get_or names i [] at.0 ∙ ap Some (sym same)

-- where a search finds none there is none
pub position-finds : (names : List (List ℕ)) (name : List ℕ) → position (bytes_eq name) names ≡ None → Contains names name → ⊥
position-finds names name e e3 = grind (arith, common_steps, prefix_len_passes, bytes_eq-Decides)

-- both for names that are seen through another type
pub found_place : {A : Type 0} (f : A → List ℕ) (xs : List A) (names : List (List ℕ)) (name : List ℕ) (i : ℕ) → map f xs ≡ names →
    position (λ x. bytes_eq name (f x)) xs ≡ Some i → position (bytes_eq name) names ≡ Some i
found_place f xs names name i view e = ap (position (bytes_eq name)) (sym view) ∙ position-map f (bytes_eq name) xs ∙ e

pub no_place : {A : Type 0} (f : A → List ℕ) (xs : List A) (names : List (List ℕ)) (name : List ℕ) → map f xs ≡ names →
    position (λ x. bytes_eq name (f x)) xs ≡ None → position (bytes_eq name) names ≡ None
no_place f xs names name view e = ap (position (bytes_eq name)) (sym view) ∙ position-map f (bytes_eq name) xs ∙ e

-- the same of the reader's word
pub place_of-found : (names : List (List ℕ)) (name : List ℕ) (i : ℕ) → position (bytes_eq name) names ≡ Some i →
    place_of names name ≡ Some (record { 0 = i })
unfolding place_of
place_of-found names name i e = ap (option_map as_var) e

pub place_of-none : (names : List (List ℕ)) (name : List ℕ) → position (bytes_eq name) names ≡ None → place_of names name ≡ None
unfolding place_of
place_of-none names name e = ap (option_map as_var) e

-- what the reader finds is the name's number
pub place_of-sound : (names : List (List ℕ)) (name : List ℕ) (v : Var) → place_of names name ≡ Some v → IsDeclared names name v
unfolding place_of
place_of-sound names name v e = position-is_place names name v.0 (grind arith)

pub place_of-finds : (names : List (List ℕ)) (name : List ℕ) → place_of names name ≡ None → Contains names name → ⊥
unfolding place_of
place_of-finds names name e = position-finds names name (grind arith)

-- Codes that are written one after another.
use Rattle.std.proofs.Common.{◌≡◌, ℕ, zero, suc, ◌+◌, ◌<◌, ◌≤◌, List, [], ◌∷◌, ◌++◌, Option, Some, None, length, take, get_or, slice_get, refl, ap, sym, ◌∙◌, append_assoc, append-nil, take_all, add-one, arith}
use Rattle.std.specs.Prelude.{option_and_then, unwrap_or}
use Rattle.std.specs.List.{flat_map}
use Rattle.uv_key.specs.Codes.{number_code, list_code}

-- the bytes of what may be missing, if it is there
abbrev pub piece : {A : Type 0} → (A → List ℕ) → Option A → List ℕ
piece f None = []
piece f (Some x) = f x

module _ {A : Type 0} (f : A → List ℕ) where
  next_piece : (xs : List A) (i : ℕ) → flat_map f (take (suc i) xs) ≡ flat_map f (take i xs) ++ piece f (slice_get xs i)
  next_piece [] zero = refl
  next_piece [] (suc i) = refl
  next_piece (x ∷ xs) zero = append-nil (f x)
  next_piece (x ∷ xs) (suc i) =
      ap (λ ys. f x ++ ys) (next_piece xs i) ∙ sym (append_assoc (f x) (flat_map f (take i xs)) (piece f (slice_get xs i)))

  -- one more of a list behind those before it
  pub piece_turn : (xs : List A) (i : ℕ) (start bytes : List ℕ) → bytes ≡ start ++ flat_map f (take i xs) →
      bytes ++ piece f (slice_get xs i) ≡ start ++ flat_map f (take (i + 1) xs)
  piece_turn xs i start bytes all =
      ap (λ t. t ++ piece f (slice_get xs i)) all ∙ append_assoc start (flat_map f (take i xs)) (piece f (slice_get xs i))
      ∙ ap (λ t. start ++ t) (sym (ap (λ n. flat_map f (take n xs)) (add-one i) ∙ next_piece xs i))

  -- all of them
  pub each_end : (xs : List A) (i : ℕ) (start bytes : List ℕ) → length xs ≤ i →
      bytes ≡ start ++ flat_map f (take i xs) → bytes ≡ start ++ flat_map f xs
  each_end xs i start bytes ended all = all ∙ ap (λ ys. start ++ flat_map f ys) (take_all i xs ended)

  -- within the list there is one
  pub piece_there : (xs : List A) (i : ℕ) (d : A) → i < length xs → f (unwrap_or (slice_get xs i) d) ≡ piece f (slice_get xs i)
  piece_there [] i d l = absurd (let g : ⊥ = omega (arith, l) in g)
  piece_there (x ∷ xs) zero d l = refl
  piece_there (x ∷ xs) (suc i) d l = piece_there xs i d (omega arith)

  pub piece_at : (xs : List A) (i : ℕ) (d : A) → i < length xs → f (get_or xs i d) ≡ piece f (slice_get xs i)
  piece_at [] i d l = absurd (let g : ⊥ = omega (arith, l) in g)
  piece_at (x ∷ xs) zero d l = refl
  piece_at (x ∷ xs) (suc i) d l = piece_at xs i d (omega arith)

  pub each_turn : (xs : List A) (i : ℕ) (d : A) (start bytes : List ℕ) → i < length xs →
      bytes ≡ start ++ flat_map f (take i xs) → bytes ++ f (get_or xs i d) ≡ start ++ flat_map f (take (i + 1) xs)
  each_turn xs i d start bytes within all = ap (λ t. bytes ++ t) (piece_at xs i d within) ∙ piece_turn xs i start bytes all

  -- a list: how many, and all of them
  pub list_end : (xs : List A) (i : ℕ) (start counted bytes : List ℕ) → length xs ≤ i → counted ≡ start ++ number_code (length xs) →
      bytes ≡ counted ++ flat_map f (take i xs) → bytes ≡ start ++ list_code f xs
  unfolding list_code
  list_end xs i start counted bytes ended count all =
      each_end xs i counted bytes ended all ∙ ap (λ t. t ++ flat_map f xs) count ∙ append_assoc start (number_code (length xs)) (flat_map f xs)

-- of those that may themselves be missing
pub piece_of_option : {B : Type 0} (f : Option B → List ℕ) (xs : List (Option B)) (i : ℕ) → i < length xs →
    f (option_and_then (λ x. x) (slice_get xs i)) ≡ piece f (slice_get xs i)
piece_of_option f [] i l = absurd (let g : ⊥ = omega (arith, l) in g)
piece_of_option f (x ∷ xs) zero l = refl
piece_of_option f (x ∷ xs) (suc i) l = piece_of_option f xs i (omega arith)

-- Byte strings that are kept in two parts, each part by its number.
use Rattle.std.specs.Prelude.{◌≡◌, ℕ, ◌/◌, ◌<◌, List, [], ◌∷◌, ◌++◌, ◌⊎◌, Some, slice_get, slice_index_or, length}

abbrev pub joined : List (List ℕ) → ℕ × ℕ → List ℕ
joined parts pair = slice_index_or parts pair.0 [] ++ slice_index_or parts pair.1 []

-- each is there once
abbrev pub IsOnce : {X : Type 0} → List X → Type 0
IsOnce {X} xs = (i j : ℕ) (x : X) → slice_get xs i ≡ Some x → slice_get xs j ≡ Some x → i ≡ j

-- what has a number keeps it
abbrev pub KeepsNumbers : {X : Type 0} → List X → List X → Type 0
KeepsNumbers {X} xs ys = (i : ℕ) (x : X) → slice_get xs i ≡ Some x → slice_get ys i ≡ Some x

-- it was there, or it is behind the others now, or memory was refused
abbrev pub IsEntered : {X : Type 0} → List X → X → List X → Type 0
IsEntered old x new = (new ≡ old) ⊎ ((new ≡ old ++ x ∷ []) × ((i : ℕ) → slice_get old i ≡ Some x → ⊥))

-- pairs of numbers of parts, of which each is a byte string that is cut in the middle
pub record IsCut (parts : List (List ℕ)) (pairs : List (ℕ × ℕ)) : Type 0 where
  pub fronts : (i : ℕ) (pair : ℕ × ℕ) → slice_get pairs i ≡ Some pair → pair.0 < length parts
  pub backs : (i : ℕ) (pair : ℕ × ℕ) → slice_get pairs i ≡ Some pair → pair.1 < length parts
  pub middles : (i : ℕ) (pair : ℕ × ℕ) → slice_get pairs i ≡ Some pair
      → length (slice_index_or parts pair.0 []) ≡ length (joined parts pair) / 2
  pub pairs_once : IsOnce pairs

-- A list whose elements are changed one after another, where they stand.
use Rattle.uv_script.proofs.ProofNames.{◌≡◌, ℕ, ◌+◌, ◌<◌, List, ◌++◌, length, drop, map, get_or, slice_set, ap, ◌∙◌, take}
use Rattle.std.proofs.lemmas.List.Edits.{map_over_more}

pub changed_more : {A : Type 0} (f : A → A) (xs ys : List A) (i : ℕ) (x y : A) → i < length xs → ys ≡ map f (take i xs) ++ drop i xs →
    x ≡ get_or ys i x → y ≡ f x → slice_set ys i y ≡ map f (take (i + 1) xs) ++ drop (i + 1) xs
changed_more f xs ys i x y within so_far is now = ap (slice_set ys i) now ∙ map_over_more f xs ys i x within so_far is

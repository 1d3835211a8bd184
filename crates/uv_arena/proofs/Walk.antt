-- A list walked from its head is the list.
use Rattle.uv_arena.proofs.ProofNames.{◌≡◌, ℕ, zero, suc, ◌<◌, ◌≤◌, Bool, true, false, eqb, ◌||◌, List, [], ◌∷◌, length, Option, Some, None, refl, sym, ap, ◌∙◌, subst, inl, inr, arith, AllByRecursion, list_any, eqb_tells, slice_get_within, Links, Chains, first, IsIn, IsApart, IsSegment, IsList, Stands, next_of, head_of}
use Rattle.std.specs.List.{IsDistinct}
use Rattle.std.proofs.lemmas.Map.Steps.{length-le_from_distinct_below}
use Rattle.uv_arena.specs.Chains.{walk, list_of}
use Rattle.uv_arena.proofs.Lists.{segment_tells}
use Rattle.uv_arena.proofs.Relinking.{eqb_no}

other_than : (x : ℕ) (xs : List ℕ) → (IsIn x xs → ⊥) → AllByRecursion (λ y. eqb x y ≡ false) xs
other_than x [] h = tt
other_than x (y ∷ ys) h = (eqb_no x y (λ e. h (inl e)), other_than x ys (λ i. h (inr i)))

distinct : (xs : List ℕ) → IsApart xs → IsDistinct eqb xs
unfolding IsDistinct
distinct [] h = tt
distinct (x ∷ xs) h = (other_than x xs h.0, distinct xs h.1)

is_in : (q : ℕ) (xs : List ℕ) → list_any (eqb q) xs ≡ true → IsIn q xs
is_in q [] e = cc
is_in q (x ∷ xs) e = elim (eqb_tells q x) [
  | inl y ↦ inl y.1
  | inr n ↦ inr (is_in q xs (ap (λ (u : Bool). u || list_any (eqb q) xs) (sym n.0) ∙ e))
]

-- numbers that are apart and small are few
pub few : (xs : List ℕ) (n : ℕ) → IsApart xs → ((x : ℕ) → IsIn x xs → x < n) → length xs ≤ n
few xs n apart below = length-le_from_distinct_below xs n (distinct xs apart) (λ q e. below q (is_in q xs e))

pub short : (ls : List Links) (k : ℕ) (xs : List ℕ) → IsApart xs → IsSegment ls k None xs None → length xs ≤ length ls
short ls k xs apart h = few xs (length ls) apart
    (λ x m. let on = segment_tells ls k None xs None h x m in slice_get_within ls x on.0 on.1)

walk_segment : (ls : List Links) (k : ℕ) (f : ℕ) (p : Option ℕ) (xs : List ℕ) → length xs ≤ f → IsSegment ls k p xs None
    → walk ls f (first xs None) ≡ xs
unfolding walk
walk_segment ls k zero p [] le h = refl
walk_segment ls k zero p (x ∷ xs) le h = absurd (omega arith)
walk_segment ls k (suc f) p [] le h = refl
walk_segment ls k (suc f) p (x ∷ xs) le h = cc (walk_segment ls k f (Some x) xs (omega arith) h.1)

pub walked : (c : Chains) (k : ℕ) (xs : List ℕ) → IsList c k xs → list_of c k ≡ xs
unfolding list_of
walked c k xs h = grind (arith, walk_segment, short)

-- what stands for some lists stands for those that are walked
pub stands_walked : (c : Chains) (xs : ℕ → List ℕ) → Stands c xs → Stands c (list_of c)
stands_walked c xs s = record {
  lists = λ k lt. subst (IsList c k) (sym (walked c k (xs k) (s.lists k lt))) (s.lists k lt);
  listed = λ y m k g is. let on = s.listed y m k g is in (on.0, subst (IsIn y) (sym (walked c k (xs k) (s.lists k on.0))) on.1);
  rest = s.rest;
}

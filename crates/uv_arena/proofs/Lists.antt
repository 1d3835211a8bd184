-- Lists of slots: what is in them, what is apart, and segments.
use Rattle.uv_arena.proofs.ProofNames.{◌≡◌, ℕ, ◌⊎◌, List, [], ◌∷◌, ◌++◌, slice_get, Option, Some, None, refl, sym, ap, ◌∙◌, subst, inl, inr, Links, link, first, last, IsIn, IsApart, IsSegment}

pub in_left : (y : ℕ) (xs ys : List ℕ) → IsIn y xs → IsIn y (xs ++ ys)
in_left y [] ys h = absurd h
in_left y (x ∷ xs) ys h = elim h [ inl e ↦ inl e | inr r ↦ inr (in_left y xs ys r) ]

pub in_right : (y : ℕ) (xs ys : List ℕ) → IsIn y ys → IsIn y (xs ++ ys)
in_right y [] ys h = h
in_right y (x ∷ xs) ys h = inr (in_right y xs ys h)

pub in_either : (y : ℕ) (xs ys : List ℕ) → IsIn y (xs ++ ys) → IsIn y xs ⊎ IsIn y ys
in_either y [] ys h = inr h
in_either y (x ∷ xs) ys h = elim h [ inl e ↦ inl (inl e) | inr r ↦ elim (in_either y xs ys r) [ inl a ↦ inl (inr a) | inr b ↦ inr b ] ]

pub split_at : (y : ℕ) (xs : List ℕ) → IsIn y xs → (us : List ℕ) × (vs : List ℕ) × (xs ≡ us ++ y ∷ vs)
split_at y [] h = absurd h
split_at y (x ∷ xs) h = elim h [
  | inl e ↦ ([], xs, ap (λ z. z ∷ xs) (sym e))
  | inr r ↦ let on = split_at y xs r in (x ∷ on.0, on.1, ap (λ l. x ∷ l) on.2)
]

pub last_in : (x : ℕ) (xs : List ℕ) (q : Option ℕ) → (i : ℕ) × (last q (x ∷ xs) ≡ Some i) × IsIn i (x ∷ xs)
last_in x [] q = (x, refl, inl refl)
last_in x (y ∷ ys) q = let on = last_in y ys (Some x) in (on.0, on.1, inr on.2)

pub last_is_in : (xs : List ℕ) (i : ℕ) → last None xs ≡ Some i → IsIn i xs
last_is_in [] i e = cc
last_is_in (x ∷ xs) i e = let on = last_in x xs None in let same : on.0 ≡ i = cc in subst (λ z. IsIn z (x ∷ xs)) same on.2

pub first_is_in : (xs : List ℕ) (i : ℕ) → first xs None ≡ Some i → IsIn i xs
first_is_in [] i e = cc
first_is_in (x ∷ xs) i e = inl cc

pub apart_left : (xs ys : List ℕ) → IsApart (xs ++ ys) → IsApart xs
apart_left [] ys h = tt
apart_left (x ∷ xs) ys h = (λ r. h.0 (in_left x xs ys r), apart_left xs ys h.1)

pub apart_right : (xs ys : List ℕ) → IsApart (xs ++ ys) → IsApart ys
apart_right [] ys h = h
apart_right (x ∷ xs) ys h = apart_right xs ys h.1

pub apart_across : (xs ys : List ℕ) → IsApart (xs ++ ys) → (y : ℕ) → IsIn y xs → IsIn y ys → ⊥
apart_across [] ys h y a b = a
apart_across (x ∷ xs) ys h y a b = elim a [ inl e ↦ h.0 (in_right x xs ys (subst (λ z. IsIn z ys) e b)) | inr r ↦ apart_across xs ys h.1 y r b ]

pub apart_join : (xs ys : List ℕ) → IsApart xs → IsApart ys → ((y : ℕ) → IsIn y xs → IsIn y ys → ⊥) → IsApart (xs ++ ys)
apart_join [] ys a b n = b
apart_join (x ∷ xs) ys a b n =
    (λ r. elim (in_either x xs ys r) [ inl l ↦ a.0 l | inr l ↦ n x (inl refl) l ], apart_join xs ys a.1 b (λ y l r. n y (inr l) r))

pub first_append : (xs ys : List ℕ) (n : Option ℕ) → first (xs ++ ys) n ≡ first xs (first ys n)
first_append [] ys n = refl
first_append (x ∷ xs) ys n = refl

pub last_append : (xs ys : List ℕ) (p : Option ℕ) → last p (xs ++ ys) ≡ last (last p xs) ys
last_append [] ys p = refl
last_append (x ∷ xs) ys p = last_append xs ys (Some x)

module _ (ls : List Links) (k : ℕ) where
  pub segment_left : (p : Option ℕ) (xs ys : List ℕ) (n : Option ℕ) → IsSegment ls k p (xs ++ ys) n → IsSegment ls k p xs (first ys n)
  segment_left p [] ys n h = tt
  segment_left p (x ∷ xs) ys n h = (h.0 ∙ ap (λ z. Some (link k p z)) (first_append xs ys n), segment_left (Some x) xs ys n h.1)

  pub segment_right : (p : Option ℕ) (xs ys : List ℕ) (n : Option ℕ) → IsSegment ls k p (xs ++ ys) n → IsSegment ls k (last p xs) ys n
  segment_right p [] ys n h = h
  segment_right p (x ∷ xs) ys n h = segment_right (Some x) xs ys n h.1

  pub segment_join : (p : Option ℕ) (xs ys : List ℕ) (n : Option ℕ) → IsSegment ls k p xs (first ys n) → IsSegment ls k (last p xs) ys n
      → IsSegment ls k p (xs ++ ys) n
  segment_join p [] ys n a b = b
  segment_join p (x ∷ xs) ys n a b = (a.0 ∙ ap (λ z. Some (link k p z)) (sym (first_append xs ys n)), segment_join (Some x) xs ys n a.1 b)

  pub segment_tells : (p : Option ℕ) (xs : List ℕ) (n : Option ℕ) → IsSegment ls k p xs n → (y : ℕ) → IsIn y xs
      → (m : Links) × (slice_get ls y ≡ Some m) × (m.list ≡ Some k)
  segment_tells p [] n h y i = absurd i
  segment_tells p (x ∷ xs) n h y i = elim i [
    | inl e ↦ (link k p (first xs n), ap (λ z. slice_get ls z) e ∙ h.0, refl)
    | inr r ↦ segment_tells (Some x) xs n h.1 y r
  ]

-- The key of a place tells all of it that decides what comes after.
use Rattle.uv_find.proofs.Names.{◌≡◌, ℕ, List, [], ◌∷◌, ◌++◌, length, refl, sym, ap, ap₂, ◌∙◌, append_assoc, arith, Rules, Along, Left, Spot, told, kind_code, event_code, each_code, along_code, kept_code, spot_code, IsSpot, number_code, numbers_tell}
use Rattle.uv_state_key.proofs.States.{after_told}
use Rattle.uv_state_key.proofs.FormsTell.{forms_tell}

kinds_tell : (a b : Left) (x y : List ℕ) → kind_code a ≡ kind_code b → event_code a ++ x ≡ event_code b ++ y → (a ≡ b) × (x ≡ y)
kinds_tell a b x y e same = grind (arith, numbers_tell)

-- what is left of as many in both
each_tells : (a b : List Left) (x y : List ℕ) → length a ≡ length b → each_code a ++ x ≡ each_code b ++ y → (a ≡ b) × (x ≡ y)
each_tells [] [] x y s e = (refl, e)
each_tells [] (o ∷ os) x y s e = absurd (omega (arith, s))
each_tells (o ∷ os) [] x y s e = absurd (omega (arith, s))
each_tells (a ∷ as1) (b ∷ bs) x y s e =
    let more : length as1 ≡ length bs = omega (arith, s) in
    let first = numbers_tell (kind_code a) (kind_code b) (event_code a ++ (each_code as1 ++ x)) (event_code b ++ (each_code bs ++ y))
    (sym (parted (kind_code a) (event_code a) (each_code as1) x) ∙ e ∙ parted (kind_code b) (event_code b) (each_code bs) y) in
    let here = kinds_tell a b (each_code as1 ++ x) (each_code bs ++ y) first.0 first.1 in
    let r = each_tells as1 bs x y more here.1 in
    (ap₂ (λ o os. o ∷ os) here.0 r.0, r.1)
  where
    parted : (n : ℕ) (code rest x : List ℕ) → ((number_code n ++ code) ++ rest) ++ x ≡ number_code n ++ (code ++ (rest ++ x))
    parted n code rest x = append_assoc (number_code n ++ code) rest x ∙ append_assoc (number_code n) code (rest ++ x)

along_tells : (a b : Along) → along_code a ≡ along_code b → a ≡ b
along_tells a b e =
    let next = numbers_tell a.next b.next (number_code a.polls ++ (number_code a.steps ++ number_code a.spare))
    (number_code b.polls ++ (number_code b.steps ++ number_code b.spare)) e in
    let polls = numbers_tell a.polls b.polls (number_code a.steps ++ number_code a.spare) (number_code b.steps ++ number_code b.spare) next.1 in
    let steps = numbers_tell a.steps b.steps (number_code a.spare) (number_code b.spare) polls.1 in
    let spare = numbers_tell a.spare b.spare [] [] (ap (λ xs. xs ++ []) steps.1) in
    λ i. record { next = next.0 i; polls = polls.0 i; steps = steps.0 i; spare = spare.0 i }

-- of how late or early a timer is, how long a callback still takes, and how far the order is along
kept_tells : (d e : ℕ × ℕ) (owed other : ℕ) (a b : Along) → kept_code d owed a ≡ kept_code e other b → (d ≡ e) × (owed ≡ other) × (a ≡ b)
kept_tells d e owed other a b same =
    let late = numbers_tell d.0 e.0 (number_code d.1 ++ (number_code owed ++ along_code a))
    (number_code e.1 ++ (number_code other ++ along_code b)) same in
    let early = numbers_tell d.1 e.1 (number_code owed ++ along_code a) (number_code other ++ along_code b) late.1 in
    let still = numbers_tell owed other (along_code a) (along_code b) early.1 in
    ((λ i. (late.0 i, early.0 i)), still.0, along_tells a b still.1)

-- a place is told by its key
pub places_tell : (r : Rules) (s t : Spot) → IsSpot r s → IsSpot r t → spot_code r s ≡ spot_code r t → told r s.place ≡ told r t.place
places_tell r s t is js e = grind (arith, told, append_assoc, forms_tell, after_told, numbers_tell, append_assoc, each_tells, kept_tells)

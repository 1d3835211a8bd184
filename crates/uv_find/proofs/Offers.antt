-- Where the finishes stand among the offers.
use Rattle.uv_find.proofs.Names.{◌≡◌, Bool, ℕ, zero, suc, ◌<◌, ◌⊎◌, inl, inr, List, [], ◌∷◌, ◌++◌, length, slice_get, refl, sym, ap, subst, ◌∙◌, Some, append_assoc, length-append, arith, Step, Offered, at_will, first_offers, finishes}
use Rattle.uv_ids.specs.declared.event.Event.TheVariants as event

pub or_last : (k n : ℕ) → k < suc n → (k ≡ n) ⊎ (k < n)
or_last k n l = grind arith

at_length : (xs ys : List Offered) (x : Offered) → slice_get (xs ++ x ∷ ys) (length xs) ≡ Some x
at_length [] ys x = refl
at_length (y ∷ xs) ys x = at_length xs ys x

finishes_long : (n : ℕ) → length (finishes n) ≡ n
finishes_long zero = refl
finishes_long (suc n) = let more = finishes_long n in omega (arith, more, length-append (finishes n) (at_will (Step (event.Finish n)) ∷ []))

pub finish_in : (n k : ℕ) (ys : List Offered) → k < n → slice_get (finishes n ++ ys) k ≡ Some (at_will (Step (event.Finish k)))
finish_in zero k ys below = absurd (omega (arith, below))
finish_in (suc n) k ys below = ap (λ xs. slice_get xs k) (append_assoc (finishes n) (at_will (Step (event.Finish n)) ∷ []) ys)
    ∙ by (or_last k n below) (λ less. finish_in n k (at_will (Step (event.Finish n)) ∷ ys) less)
  where
    by : ((k ≡ n) ⊎ (k < n)) → (k < n → slice_get (finishes n ++ at_will (Step (event.Finish n)) ∷ ys) k ≡ Some (at_will (Step (event.Finish k))))
        → slice_get (finishes n ++ at_will (Step (event.Finish n)) ∷ ys) k ≡ Some (at_will (Step (event.Finish k)))
    by (inl e) rest =
        let at : slice_get (finishes n ++ at_will (Step (event.Finish n)) ∷ ys) n ≡ Some (at_will (Step (event.Finish n))) =
        ap (slice_get (finishes n ++ at_will (Step (event.Finish n)) ∷ ys)) (sym (finishes_long n))
        ∙ at_length (finishes n) ys (at_will (Step (event.Finish n))) in
        subst (λ m. slice_get (finishes n ++ at_will (Step (event.Finish n)) ∷ ys) m ≡ Some (at_will (Step (event.Finish m)))) (sym e) at
    by (inr less) rest = rest less

-- they stand behind the first two, in either order of these
pub offers_are : (at_once : Bool) (xs ys : List Offered) → first_offers at_once ++ xs ++ ys ≡ first_offers at_once ++ (xs ++ ys)
offers_are at_once xs ys = assumption

pub behind_first : (at_once : Bool) (xs ys : List Offered) (i : ℕ)
    → slice_get (first_offers at_once ++ xs ++ ys) (suc (suc i)) ≡ slice_get (xs ++ ys) i
behind_first at_once xs ys i = assumption

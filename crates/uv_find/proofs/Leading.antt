-- Offers that lead on.
use Rattle.uv_find.proofs.Names.{◌≡◌, ℕ, zero, suc, ◌<◌, ◌⊎◌, false, ◌&&◌, Some, Ok, is_none, arith, Rules, Place, Led, led, none_leads, Searched, Outcome}
use Rattle.uv_find.specs.Steps.{Takes}

or_last : (k n : ℕ) → k < suc n → (k ≡ n) ⊎ (k < n)
or_last k n l = grind arith

-- one of the first offers leads on
pub leads_some : (r : Rules) (p : Place) (k n : ℕ) (l : Led) → k < n → led r p k ≡ Some l → none_leads r p n ≡ false
leads_some r p k zero l below goes = absurd (omega arith)
leads_some r p k (suc n) l below goes = by (or_last k n below) (λ m. leads_some r p k n l m goes)
  where
    by : ((k ≡ n) ⊎ (k < n)) → (k < n → none_leads r p n ≡ false) → (none_leads r p n && is_none (led r p n)) ≡ false
    by e0 more = grind arith

-- a move that was made is one of them
pub takes_some : (E : Type 0) (s t : Searched) (number n : ℕ) (o : Outcome) → number < n → Takes {E = E} s number (Ok (Some o)) t
    → none_leads s.rules s.spot.place n ≡ false
takes_some E s t number n o below (l, goes) = leads_some s.rules s.spot.place number n l below goes.0

-- An absorb carries the tickets of one epoch.
use Rattle.uv_wake.proofs.ProofNames.{◌≡◌, ◌⊎◌, List, sym, subst, Bool, Contains, Var, Ticket, LoopView, Carried, AllCarried, CarriedBy, Carries}

-- where none of v is left afterwards, each ticket of v was carried before, or by this absorb
pub once_of : (s s' : LoopView) (v : Var) (took : Bool) → s'.tickets ≡ s.tickets → Carries s v took s' → AllCarried s' v
    → (t : Ticket) → t.var ≡ v → Contains s.tickets t → Carried s t ⊎ CarriedBy s v took t
once_of s s' v took same carries all t is c = (carries t).0 (all t is (subst (λ (ts : List Ticket). Contains ts t) (sym same) c))

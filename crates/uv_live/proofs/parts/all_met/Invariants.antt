use Rattle.uv_live.proofs.Names.{◌≡◌, [], drop, get_or, map, worked}
use Rattle.uv_live.proofs.Shares.{EachBelow}
use Rattle.uv_live.proofs.parts.all_met.Given as goal

abbrev pub invariant-shifts : goal.invariant-shifts
invariant-shifts g l =
    EachBelow (λ k x. drop (get_or l.met k 0) x.events ≡ []) (map (λ s. worked s.worker s.events.items s.share.amount) l.shifts) l.k

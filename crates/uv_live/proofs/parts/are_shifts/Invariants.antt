use Rattle.uv_live.proofs.Names.{map, worked, IsByWorker}
use Rattle.uv_live.proofs.Shares.{EachBelow}
use Rattle.uv_live.proofs.parts.are_shifts.Given as goal

abbrev pub invariant-shifts : goal.invariant-shifts
invariant-shifts g l = EachBelow IsByWorker (map (λ s. worked s.worker s.events.items s.share.amount) l.shifts) l.k

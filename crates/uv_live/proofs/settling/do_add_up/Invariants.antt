use Rattle.uv_live.proofs.Names.{◌≡◌, ◌+◌, take, map, finish_count, worked, counted}
use Rattle.uv_live.proofs.settling.do_add_up.Given as goal

abbrev pub invariant-shifts : goal.invariant-shifts
invariant-shifts g l =
    finish_count l.log ≡ l.left + counted (take l.k (map (λ s. worked s.worker s.events.items s.share.amount) l.shifts))

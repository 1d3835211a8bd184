use Rattle.uv_find.proofs.Names.{◌≡◌, drop, position_from, is_of_rank}
use Rattle.uv_model.specs.After.{after}
use Rattle.uv_find.proofs.ranks.runner.Given as goal

-- the first one is among those that are left
abbrev pub invariant-workers : goal.invariant-workers
invariant-workers g l =
    let m = g.M.Machine in
    let s = after (m.program l.machine) (m.standing l.machine) in
    position_from (is_of_rank s l.rank) l.worker (drop l.worker s.running) ≡ position_from (is_of_rank s l.rank) 0 s.running

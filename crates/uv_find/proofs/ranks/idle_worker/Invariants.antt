use Rattle.uv_find.proofs.Names.{◌≡◌, Option, drop, is_none, position_from, Id}
use Rattle.uv_model.specs.After.{after}
use Rattle.uv_find.proofs.ranks.idle_worker.Given as goal

-- the first one is among those that are left
abbrev pub invariant-workers : goal.invariant-workers
invariant-workers g l =
    let m = g.M.Machine in
    let s = after (m.program l.machine) (m.standing l.machine) in
    position_from (λ (run : Option Id). is_none run) l.worker (drop l.worker s.running) ≡ position_from (λ (run : Option Id). is_none run) 0 s.running

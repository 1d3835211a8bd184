use Rattle.uv_find.proofs.Names.{◌≡◌, take, keys_run, rank_in}
use Rattle.uv_model.specs.After.{after}
use Rattle.uv_find.proofs.ranks.rank_in.Given as goal

-- of those before this one
abbrev pub invariant-workers : goal.invariant-workers
invariant-workers g l =
    let m = g.M.Machine in
    let s = after (m.program l.machine) (m.standing l.machine) in
    l.rank ≡ rank_in (take l.worker (keys_run s)) l.key

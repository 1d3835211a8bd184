use Rattle.uv_state_key.proofs.Names.{◌≡◌, take, after, least_among}
use Rattle.uv_state_key.proofs.bases.least_among.Given as goal

-- that of those before this one
abbrev pub invariant-loop-id : goal.invariant-loop-id
invariant-loop-id g l =
    let s = after (g.M.Machine.program l.machine) (g.M.Machine.standing l.machine) in
    l.least ≡ least_among s (take l.id-index l.timers) l.start

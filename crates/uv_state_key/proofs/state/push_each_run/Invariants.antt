use Rattle.uv_state_key.proofs.Names.{◌≡◌, ◌++◌, Option, take, flat_map, Id, after, option_code, id_code}
use Rattle.uv_state_key.proofs.state.push_each_run.Given as goal

-- those before this one
abbrev pub invariant-loop-worker : goal.invariant-loop-worker
invariant-loop-worker g l =
    let s = after (g.M.Machine.program l.machine) (g.M.Machine.standing l.machine) in
    l.out.items ≡ l.initial.out.items ++ flat_map (λ (run : Option Id). option_code id_code run) (take l.worker s.running)

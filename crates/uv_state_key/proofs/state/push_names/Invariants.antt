use Rattle.uv_state_key.proofs.Names.{◌≡◌, ◌++◌, take, flat_map, after}
use Rattle.uv_state_key.specs.Key.{named_code}
use Rattle.uv_state_key.proofs.state.push_names.Given as goal

-- those before this one
abbrev pub invariant-loop-number : goal.invariant-loop-number
invariant-loop-number g l =
    let s = after (g.M.Machine.program l.machine) (g.M.Machine.standing l.machine) in
    l.out.items ≡ l.initial.out.items ++ flat_map named_code (take l.number s.names)

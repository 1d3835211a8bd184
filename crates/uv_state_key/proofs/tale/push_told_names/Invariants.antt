use Rattle.uv_state_key.proofs.Names.{◌≡◌, ◌++◌, take, flat_map, Named, after, told_name, by_of}
use Rattle.uv_state_key.specs.TaleKey.{told_code}
use Rattle.uv_state_key.proofs.tale.push_told_names.Given as goal

-- those before this one
abbrev pub invariant-loop-number : goal.invariant-loop-number
invariant-loop-number g l =
    let s = after (g.M.Machine.program l.machine) (g.M.Machine.standing l.machine) in
    l.out.items ≡ l.initial.out.items
    ++ flat_map (λ (n : Named). told_code (told_name (by_of l.form) l.form.most s.arena.slots n)) (take l.number s.names)

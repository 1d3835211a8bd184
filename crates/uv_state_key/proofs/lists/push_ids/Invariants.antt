use Rattle.uv_state_key.proofs.Names.{◌≡◌, ◌++◌, take, flat_map, after, member_code}
use Rattle.uv_state_key.proofs.lists.push_ids.Given as goal

-- those before this one
abbrev pub invariant-loop-id : goal.invariant-loop-id
invariant-loop-id g l =
    let s = after (g.M.Machine.program l.machine) (g.M.Machine.standing l.machine) in
    l.out.items ≡ l.initial.out.items ++ flat_map (member_code l.named s.arena.slots) (take l.id-index l.ids)

use Rattle.uv_text.proofs.Names.{◌≡◌, ◌++◌, take, flat_map, member_text}
use Rattle.uv_model.specs.After.{after}
use Rattle.uv_text.proofs.state.push_ids.Given as goal

-- those before this one
abbrev pub invariant-loop-id : goal.invariant-loop-id
invariant-loop-id g l =
    let p = g.M.Machine.program l.machine in
    l.text.items ≡ l.initial.text.items ++ flat_map (member_text p (after p (g.M.Machine.standing l.machine))) (take l.id-index l.ids)

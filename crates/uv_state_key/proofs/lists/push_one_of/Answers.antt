use Rattle.uv_state_key.proofs.Names.{◌≡◌, ◌<◌, ◌++◌, List, [], OnOk, length, ap, sym, subst, ◌∙◌, append_assoc, arith, Id, after, members, members_code}
use Rattle.uv_state_key.proofs.Listed.{none_before}
use Rattle.uv_state_key.proofs.lists.push_one_of.Goals as goal

pub returns : goal.returns
returns g c =
    let s = after (g.M.Machine.program c.args.machine.now) (g.M.Machine.standing c.args.machine.now) in
    let xs = members s c.args.list in
    let ys = members s c.args.yet in
    let old = c.args.out.now.items in
    let given = c.as_slice.result.now in
    let code = λ (ids : List Id). members_code c.args.named s.arena.slots ids in
    let some : 0 < length ys = omega (arith, c.len.ensures, c.if-len-eq0.false, ap length c.in-Ok.ensures.members) in
    let none : xs ≡ [] = none_before xs ys c.args.id some c.requires in
    let all = ap (λ t. t ++ code given) c.in_ok-push_none.ensures ∙ append_assoc old (code []) (code given)
    ∙ ap (λ t. old ++ (code t ++ code given)) (sym none)
    ∙ ap (λ t. old ++ (code xs ++ code t)) (c.as_slice.ensures.value ∙ c.in-Ok.ensures.members) in
    subst (λ t. OnOk c.push_ids.result (c.push_ids.new.out.items ≡ t)) all c.push_ids.ensures

use Rattle.uv_state_key.proofs.Names.{List, ℕ, [], ◌∷◌, ◌++◌, ap, sym, ◌∙◌, append_assoc, after, member_code}
use Rattle.uv_state_key.proofs.Listed.{one_code}
use Rattle.uv_state_key.proofs.lists.push_single.Goals as goal

pub returns : goal.returns
returns g c =
    let slots = (after (g.M.Machine.program c.args.machine.now) (g.M.Machine.standing c.args.machine.now)).arena.slots in
    let old = c.args.out.now.items in
    let each = member_code c.args.named slots in
    let code = each c.args.id in
    let one : List ℕ = 1 ∷ [] in
    let none : List ℕ = 0 ∷ [] in
    c.push_reserved-2.ensures.items
    ∙ ap (λ t. t ++ none) (c.put_member.ensures.items
    ∙ ap (λ t. t ++ code) (c.push_reserved.ensures.items ∙ ap (λ t. t ++ one) c.in_ok-reserve.ensures.items))
    ∙ ap (λ t. t ++ none) (append_assoc old one code) ∙ append_assoc old (one ++ code) none ∙ ap (λ t. old ++ t) (sym (one_code each c.args.id))

use Rattle.uv_live.proofs.Names.{◌<◌, List, [], ◌∷◌, ◌++◌, length, get_or, set, sym, ap, ◌∙◌, arith, length-map, map-set, Var}
use Rattle.uv_live.proofs.Own.{line_noted, map_there}
use Rattle.uv_live.proofs.outside.OwnNames.note.Goals as goal

pub returns-in_ok-push-clause-noted : goal.returns-in_ok-push-clause-noted
returns-in_ok-push-clause-noted c k within =
    let lists = c.self.inside.lists.items in
    let own = c.args.self.now in
    let i = c.args.line.thread in
    let there : i < length lists = omega (arith, c.if-thread-len.true, c.len.ensures) in
    let here = ap (λ v. v.items) c.index_mut.ensures.value ∙ sym (map_there (λ v. v.items) lists i c.index_mut.result.now [] there)
    ∙ ap (λ (names : List (List Var)). get_or names i []) c.self.view_is in
    let all = map-set (λ v. v.items) lists i c.push.new.self
    ∙ (λ j. set (c.self.view_is j) i ((c.in_ok-push.ensures.items ∙ ap (λ (names : List Var). names ++ c.args.line.name ∷ []) here) j)) in
    ap (λ (names : List (List Var)). get_or names k []) all
    ∙ line_noted own c.args.line k (omega (arith, there, length-map lists (λ v. v.items), ap length c.self.view_is))

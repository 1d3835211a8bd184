use Rattle.uv_loop.proofs.Names.{rules, ◌≡◌, [], ◌∷◌, ◌++◌, length, sym, ap, ◌∙◌, all_said}
use Rattle.uv_loop.proofs.KeptLines.{pushed_narrow, pushed_wide, said_wide_pushed}
use Rattle.uv_loop.proofs.line_row.LineRow.push.Goals as goal

pub invariant_of-self : goal.invariant_of-self
invariant_of-self c = pushed_narrow c.self.inside.lines.items c.push_reserved.new.self.items c.self.inside.wides.items c.in-Ok.narrow
    c.push_reserved.ensures.items c.in-Ok.ensures.ok.narrow c.self.invariant

pub invariant_of-self-in-Err : goal.invariant_of-self-in-Err
invariant_of-self-in-Err c =
    let last : c.len.result ≡ length c.self.inside.wides.items = search rules in
    pushed_wide c.self.inside.lines.items c.push_reserved-in-Err.new.self.items c.self.inside.wides.items
    c.push_reserved-in-Err-2.new.self.items c.len.result c.in-Err.wide last c.push_reserved-in-Err.ensures.items
    c.push_reserved-in-Err-2.ensures.items c.self.invariant

pub returns-in-Err-clause-items : goal.returns-in-Err-clause-items
returns-in-Err-clause-items c =
    let last : c.len.result ≡ length c.self.inside.wides.items = search rules in
    said_wide_pushed c.self.inside.lines.items c.push_reserved-in-Err.new.self.items c.self.inside.wides.items
    c.push_reserved-in-Err-2.new.self.items c.len.result c.in-Err.wide last c.push_reserved-in-Err.ensures.items
    c.push_reserved-in-Err-2.ensures.items c.self.invariant
    ∙ ap (λ s. all_said c.self.inside.wides.items c.self.inside.lines.items ++ s ∷ []) (sym c.in-Err.ensures.err)
    ∙ ap (λ r. r.items ++ c.args.line ∷ []) c.self.view_is

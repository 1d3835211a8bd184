use Rattle.uv_loop.proofs.Names.{rules, ◌≡◌, [], ◌∷◌, length, sym, ap, ◌∙◌, arith, take, pred}
use Rattle.uv_loop.proofs.KeptLines.{popped_narrow, popped_wide, popped_said, count_popped}
use Rattle.uv_loop.proofs.line_row.LineRow.pop.Goals as goal

pub invariant_of-self-in-Some-pop : goal.invariant_of-self-in-Some-pop
invariant_of-self-in-Some-pop c = popped_wide c.pop.new.self.items c.self.inside.lines.items c.pop-then-is_wide.new.self.items
    c.self.inside.wides.items c.in-Some.line c.in-Some-pop.field-0 c.in-Some.ensures.items c.in-Some-pop.ensures.items
    (sym c.is_wide.ensures ∙ c.if-is_wide.true) c.self.invariant

pub unreachable-requires : goal.unreachable-requires
unreachable-requires c =
    let none : length c.self.inside.wides.items ≡ 0 = search rules in
    let some = count_popped c.pop.new.self.items c.self.inside.lines.items c.in-Some.line c.in-Some.ensures.items
    (sym c.is_wide.ensures ∙ c.if-is_wide.true) in
    absurd (omega (arith, none, some, c.self.invariant.all))

pub invariant_of-self-else-is_wide : goal.invariant_of-self-else-is_wide
invariant_of-self-else-is_wide c = popped_narrow c.pop.new.self.items c.self.inside.lines.items c.self.inside.wides.items c.in-Some.line
    c.in-Some.ensures.items (sym c.is_wide.ensures ∙ c.if-is_wide.false) c.self.invariant

pub returns-in-Some-pop-clause-items : goal.returns-in-Some-pop-clause-items
returns-in-Some-pop-clause-items c =
    let kept = popped_wide c.pop.new.self.items c.self.inside.lines.items c.pop-then-is_wide.new.self.items
    c.self.inside.wides.items c.in-Some.line c.in-Some-pop.field-0 c.in-Some.ensures.items c.in-Some-pop.ensures.items
    (sym c.is_wide.ensures ∙ c.if-is_wide.true) c.self.invariant in
    popped_said c.pop.new.self.items c.self.inside.lines.items c.pop-then-is_wide.new.self.items c.self.inside.wides.items
    (c.in-Some-pop.field-0 ∷ []) c.in-Some.line c.in-Some.ensures.items c.in-Some-pop.ensures.items kept
    ∙ ap (λ r. take (pred (length r.items)) r.items) c.self.view_is

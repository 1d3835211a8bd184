use Rattle.uv_inquiry.proofs.Cuts.{reached_next, reached_begin, reached_end}
use Rattle.uv_inquiry.proofs.front.cut_begin.Goals as goal

pub returns-in_default-clause-none : goal.returns-in_default-clause-none
returns-in_default-clause-none c = reached_end c.lines.invariant (rw c.in_default.is at c.first_line.ensures.none)

pub returns-then-is_begin-clause-some : goal.returns-then-is_begin-clause-some
returns-then-is_begin-clause-some c =
    let taken = rw c.in-Some.is at c.first_line.ensures.some in
    reached_begin _ c.lines.invariant taken (c.is_begin.ensures.begin c.if-is_begin.true)

pub lines-preserved : goal.lines-preserved
lines-preserved c =
    let taken = rw c.in-Some.is at c.first_line.ensures.some in
    reached_next _ c.lines.invariant taken (c.is_begin.ensures.other c.if-is_begin.false)

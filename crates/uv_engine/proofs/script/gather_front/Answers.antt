use Rattle.uv_engine.proofs.Names.{arith, refl, ◌∙◌}
use Rattle.uv_engine.proofs.LongLines.{front_long, whole_more, whole_none}
use Rattle.uv_engine.proofs.Near.{near_start, near_more, near_here, near_line, near_long}
use Rattle.uv_engine.proofs.Starting.{can_start, can_go_on, front_begun, front_missing}
use Rattle.uv_engine.proofs.script.gather_front.Goals as goal

pub lines-init : goal.lines-init
lines-init g c = record {
  end = c.requires.end;
  text = λ reads. rw c.requires.nothing (can_start _);
  whole = λ reads. rw c.requires.nothing (whole_none _);
  near = λ reads. near_start _;
  budget = λ reads. refl;
  given = λ few. refl;
  size_is = omega arith;
  none_failed = refl;
}

pub returns-in-End-clause-front : goal.returns-in-End-clause-front
returns-in-End-clause-front g c = λ reads.
    let none_left = rw c.in-End.is at (c.in_ok-line.ensures.line reads) in
    front_missing (c.lines.invariant.text reads) none_left

pub returns-in-Long-clause-front : goal.returns-in-Long-clause-front
returns-in-Long-clause-front g c = λ reads.
    let taken = rw c.in-Long.is at (c.in_ok-line.ensures.line reads) in
    front_long _ (c.lines.invariant.text reads) (c.lines.invariant.whole reads) taken

pub returns-in-End-clause-near : goal.returns-in-End-clause-near
returns-in-End-clause-near g c = grind arith

pub returns-in-Long-clause-near : goal.returns-in-Long-clause-near
returns-in-Long-clause-near g c = λ reads.
    let taken = rw c.in-Long.is at (c.in_ok-line.ensures.line reads) in
    c.lines.invariant.near reads _ (near_long _ c.next_line.new.self _ taken c.in_ok-line.ensures.behind c.in_ok-line.ensures.near)

pub returns-then-is_begin-clause-near : goal.returns-then-is_begin-clause-near
returns-then-is_begin-clause-near g c = λ reads.
    let taken = rw c.in-Line.is at (c.in_ok-line.ensures.line reads) in
    c.lines.invariant.near reads _ (near_line _ _ _ _ c.in-Line.line.fed taken.0 taken.1
    (near_here c.next_line.new.self _ c.in_ok-line.ensures.behind c.in_ok-line.ensures.near))

pub returns-then-is_begin-clause-front : goal.returns-then-is_begin-clause-front
returns-then-is_begin-clause-front g c = grind (arith, front_begun)

pub lines-preserved : goal.lines-preserved
lines-preserved g c = rw c.reuse.ensures (record {
  end = c.in_ok-line.ensures.end;
  text = λ reads.
      let taken = rw c.in-Line.is at (c.in_ok-line.ensures.line reads) in
      can_go_on _ (c.lines.invariant.text reads) taken.0 (c.is_begin.ensures.other c.if-is_begin.false) c.in_ok-push_line.ensures;
  whole = λ reads.
      let taken = rw c.in-Line.is at (c.in_ok-line.ensures.line reads) in
      whole_more _ (c.lines.invariant.whole reads) taken.0 (c.is_begin.ensures.other c.if-is_begin.false) c.in_ok-push_line.ensures;
  near = λ reads.
      let taken = rw c.in-Line.is at (c.in_ok-line.ensures.line reads) in
      near_more _ _ _ _ c.in-Line.line.fed (c.lines.invariant.near reads) taken.0 taken.1;
  budget = λ reads. omega (arith, c.lines.invariant.budget reads, c.in_ok-line.ensures.budget reads);
  given = grind arith;
  size_is =
      let smaller = rw c.in-Line.is at c.in_ok-line.ensures.size in
      omega (arith, smaller, c.lines.invariant.size_is);
  none_failed = c.in_ok-line.ensures.reader ∙ c.lines.invariant.none_failed;
})

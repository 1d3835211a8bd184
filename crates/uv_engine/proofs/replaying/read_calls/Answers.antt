use Rattle.uv_engine.proofs.Names.{ℕ, ◌+◌, arith, ap, sym, subst, ◌∙◌, both_ways, IsCallbackLine, err_from_is_err_and, Option, Line}
use Rattle.uv_engine.proofs.Replays.{calls_none, calls_more, calls_end, calls_bad, calls_missing, calls_fail}
use Rattle.uv_engine.proofs.replaying.read_calls.Goals as goal

pub lines-init : goal.lines-init
lines-init g c = grind (arith, calls_none)

pub returns-in_default-clause-calls : goal.returns-in_default-clause-calls
returns-in_default-clause-calls g c = λ reads es.
    let none_left = rw c.in_default.is at (c.in_ok-line.ensures.line reads) in
    let same = rw c.in_default.is at c.in_ok-line.ensures.none in
    rw c.missing.ensures (calls_missing _ (c.lines.invariant.reads reads es) (ap (λ (n : ℕ). n + 1) same) none_left)

pub returns-then-is_end-clause-calls : goal.returns-then-is_end-clause-calls
returns-then-is_end-clause-calls g c = λ reads es.
    let taken = rw c.in-Some.is at (c.in_ok-line.ensures.line reads) in
    let count = rw c.in-Some.is at c.in_ok-line.ensures.taken in
    calls_end _ c.in-Some.line.text.items _ c.in-Some.line.fed (c.lines.invariant.reads reads es) count taken
    (sym c.as_slice.ensures.value ∙ c.is_end.ensures.is c.if-is_end.true)

pub returns-then-not-is_callback_line-clause-calls : goal.returns-then-not-is_callback_line-clause-calls
returns-then-not-is_callback_line-clause-calls g c = λ reads es.
    let taken = rw c.in-Some.is at (c.in_ok-line.ensures.line reads) in
    let count = rw c.in-Some.is at c.in_ok-line.ensures.taken in
    rw c.bad.ensures
    (calls_bad _ c.in-Some.line.text.items _ c.in-Some.line.fed (c.lines.invariant.reads reads es) count taken
    (λ e. c.is_end.ensures.other c.if-is_end.false (c.as_slice.ensures.value ∙ e))
    (λ h. both_ways _ c.if-not-is_callback_line.true
    (c.is_callback_line.ensures.1 (subst IsCallbackLine (sym c.as_slice-in-lines.ensures.value) h))))

pub returns-in_err-line-clause-calls : goal.returns-in_err-line-clause-calls
returns-in_err-line-clause-calls g c = λ reads es.
    let p = err_from_is_err_and c.from_residual.result c.from_residual.ensures.1 in
    rw (p.1, p.2) (calls_fail _ c.in_err-line.field-0.0 (c.lines.invariant.reads reads es) c.in_err-line.ensures.err
    (c.in_err-line.ensures.long reads))

pub lines-preserved : goal.lines-preserved
lines-preserved g c = rw c.reuse.ensures (record {
  end = c.in_ok-line.ensures.end;
  reads = λ reads es.
      let taken = rw c.in-Some.is at (c.in_ok-line.ensures.line reads) in
      let count = rw c.in-Some.is at c.in_ok-line.ensures.taken in
      let is = subst IsCallbackLine c.as_slice-in-lines.ensures.value (c.is_callback_line.ensures.0 c.if-not-is_callback_line.false) in
      calls_more _ c.in-Some.line.text.items _ c.in-Some.line.fed _ _ _ (c.lines.invariant.reads reads es) count taken is
      (rw (c.lines.invariant.machine, c.lines.invariant.halted, c.as_slice-in-lines-2.ensures.value) at c.in_ok-meet.ensures.met);
  machine = c.in_ok-meet.ensures.machine ∙ c.lines.invariant.machine;
  halted = c.in_ok-meet.ensures.halted ∙ c.lines.invariant.halted;
  looked = rw c.lines.invariant.machine at c.in_ok-meet.ensures.looked;
  count =
      let taken = rw c.in-Some.is at c.in_ok-line.ensures.taken in
      omega (arith, taken, c.in_ok-meet.ensures.count, c.lines.invariant.count);
  few =
      let taken = rw c.in-Some.is at c.in_ok-line.ensures.taken in
      let smaller = rw c.in-Some.is at c.in_ok-line.ensures.size in
      omega (arith, taken, smaller, c.lines.invariant.few);
  budget = λ reads. omega (arith, c.lines.invariant.budget reads, c.in_ok-line.ensures.budget reads);
  given = grind arith;
  none_failed = c.in_ok-line.ensures.reader ∙ c.lines.invariant.none_failed;
})

pub returns-in_err-line-clause-budget : goal.returns-in_err-line-clause-budget
returns-in_err-line-clause-budget g c = grind arith

pub returns-in_default-clause-budget : goal.returns-in_default-clause-budget
returns-in_default-clause-budget g c = grind arith

pub returns-then-not-is_callback_line-clause-budget : goal.returns-then-not-is_callback_line-clause-budget
returns-then-not-is_callback_line-clause-budget g c = grind arith

pub returns-in_err-meet-clause-budget : goal.returns-in_err-meet-clause-budget
returns-in_err-meet-clause-budget g c = grind arith

pub returns-in_err-line-clause-reader : goal.returns-in_err-line-clause-reader
returns-in_err-line-clause-reader g c = grind arith

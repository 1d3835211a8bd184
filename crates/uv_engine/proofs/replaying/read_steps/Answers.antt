use Rattle.uv_engine.proofs.Names.{ℕ, ◌+◌, arith, ap, sym, ◌∙◌, accepts-nil, err_from_is_err_and, Option, Line}
use Rattle.uv_engine.proofs.Replays.{steps_none, steps_more, steps_end, steps_bad, steps_fail}
use Rattle.uv_engine.proofs.replaying.read_steps.Goals as goal

pub lines-init : goal.lines-init
lines-init g c = grind (arith, steps_none, accepts-nil)

pub returns-then-is_calls-clause-steps : goal.returns-then-is_calls-clause-steps
returns-then-is_calls-clause-steps g c = grind (arith, steps_end)

pub returns-in_default-clause-steps : goal.returns-in_default-clause-steps
returns-in_default-clause-steps g c = grind arith

pub returns-in_default-read_step-clause-steps : goal.returns-in_default-read_step-clause-steps
returns-in_default-read_step-clause-steps g c = grind (arith, steps_bad)

pub returns-in_err-line-clause-steps : goal.returns-in_err-line-clause-steps
returns-in_err-line-clause-steps g c = grind (arith, err_from_is_err_and, steps_fail)

pub lines-preserved : goal.lines-preserved
lines-preserved g c = rw c.reuse.ensures (record {
  end = c.in_ok-line.ensures.end;
  reads = λ reads.
      let taken = rw c.in-Some.is at (c.in_ok-line.ensures.line reads) in
      let count = rw c.in-Some.is at c.in_ok-line.ensures.taken in
      let script = c.script-script.ensures ∙ c.lines.invariant.program in
      let says = rw (c.as_slice-in-lines.ensures.value, script) at c.in-Some-read_step.ensures.some in
      steps_more _ c.in-Some.line.text.items _ c.in-Some.line.fed c.in-Some-read_step.step (c.lines.invariant.reads reads) count taken says
      (rw c.lines.invariant.program at c.in_ok-take.ensures.ran);
  few_steps = c.in_ok-take.ensures.few;
  program = c.in_ok-take.ensures.program ∙ c.lines.invariant.program;
  looked = c.in_ok-take.ensures.looked ∙ c.lines.invariant.looked;
  count = c.in_ok-take.ensures.count ∙ c.lines.invariant.count;
  parted = c.in_ok-take.ensures.parted ∙ c.lines.invariant.parted;
  few =
      let count = rw c.in-Some.is at c.in_ok-line.ensures.taken in
      let smaller = rw c.in-Some.is at c.in_ok-line.ensures.size in
      omega (arith, count, smaller, c.lines.invariant.few);
  budget = λ reads. omega (arith, c.lines.invariant.budget reads, c.in_ok-line.ensures.budget reads);
  given = grind arith;
  none_failed = c.in_ok-line.ensures.reader ∙ c.lines.invariant.none_failed;
})

pub returns-in_err-line-clause-budget : goal.returns-in_err-line-clause-budget
returns-in_err-line-clause-budget g c = grind arith

pub returns-in_default-clause-budget : goal.returns-in_default-clause-budget
returns-in_default-clause-budget g c = grind arith

pub returns-in_default-read_step-clause-budget : goal.returns-in_default-read_step-clause-budget
returns-in_default-read_step-clause-budget g c = grind arith

pub returns-in_err-take-clause-budget : goal.returns-in_err-take-clause-budget
returns-in_err-take-clause-budget g c = grind arith

pub returns-in_err-line-clause-reader : goal.returns-in_err-line-clause-reader
returns-in_err-line-clause-reader g c = grind arith

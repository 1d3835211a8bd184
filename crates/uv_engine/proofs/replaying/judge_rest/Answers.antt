use Rattle.uv_engine.proofs.Names.{[], arith, ◌∙◌, err_from_is_err_and, InSteps, InCalls, Verdict, Whole}
use Rattle.uv_engine.proofs.Recordings.{reads_then}
use Rattle.uv_engine.proofs.Replays.{fails_then, rest_judged}
use Rattle.uv_engine.proofs.Faults.{spent}
use Rattle.uv_engine.proofs.replaying.judge_rest.Goals as goal

pub returns-in_err-read_steps-clause-verdict : goal.returns-in_err-read_steps-clause-verdict
returns-in_err-read_steps-clause-verdict g c = grind arith

pub returns-in_err-read_calls-clause-verdict : goal.returns-in_err-read_calls-clause-verdict
returns-in_err-read_calls-clause-verdict g c = λ reads.
    let p = err_from_is_err_and c.from_residual-in_err-read_calls.result c.from_residual-in_err-read_calls.ensures.1 in
    let steps = c.in_ok-read_steps.ensures.steps reads in
    let calls = rw c.in_ok-read_steps.ensures.program at (c.in_err-read_calls.ensures.calls reads steps.steps) in
    rw (p.1, p.2) (fails_then (InSteps _ []) _ _ _ _ _ c.in_err-read_calls.field-0.0 steps.reads calls)

pub returns-in_err-expect_end-clause-verdict : goal.returns-in_err-expect_end-clause-verdict
returns-in_err-expect_end-clause-verdict g c = λ reads.
    let p = err_from_is_err_and c.from_residual-in_err-expect_end.result c.from_residual-in_err-expect_end.ensures.1 in
    let program = g.M.Machine.program c.args.rerun.now.machine in
    let steps = c.in_ok-read_steps.ensures.steps reads in
    let calls = rw c.in_ok-read_steps.ensures.program at (c.in_ok-read_calls.ensures.calls reads steps.steps) in
    let met = reads_then (InSteps program []) _ (Whole program steps.steps calls.called) _ _ _ _ _ _ steps.reads calls.reads in
    rw (p.1, p.2)
    (fails_then (InSteps program []) _ _ _ _ _ c.in_err-expect_end.field-0.0 met
    (c.in_err-expect_end.ensures.read reads program steps.steps calls.called))

pub returns-clause-verdict : goal.returns-clause-verdict
returns-clause-verdict g c = λ reads.
    let program = g.M.Machine.program c.args.rerun.now.machine in
    let steps = c.in_ok-read_steps.ensures.steps reads in
    let calls = rw c.in_ok-read_steps.ensures.program at (c.in_ok-read_calls.ensures.calls reads steps.steps) in
    let end = c.in_ok-expect_end.ensures.read reads program steps.steps calls.called in
    let verdict = rw (c.in_ok-read_calls.ensures.machine, c.in_ok-read_calls.ensures.halted, c.in_ok-read_steps.ensures.program) at
    c.verdict.ensures in
    rest_judged c.verdict.result steps calls end verdict

pub returns-in_err-read_steps-clause-budget : goal.returns-in_err-read_steps-clause-budget
returns-in_err-read_steps-clause-budget g c = grind arith

pub returns-in_err-read_calls-clause-budget : goal.returns-in_err-read_calls-clause-budget
returns-in_err-read_calls-clause-budget g c = grind arith

pub returns-in_err-expect_end-clause-budget : goal.returns-in_err-expect_end-clause-budget
returns-in_err-expect_end-clause-budget g c = grind arith

pub returns-clause-budget : goal.returns-clause-budget
returns-clause-budget g c = grind arith

pub returns-in_err-read_calls-clause-reader : goal.returns-in_err-read_calls-clause-reader
returns-in_err-read_calls-clause-reader g c = grind arith

pub returns-in_err-expect_end-clause-reader : goal.returns-in_err-expect_end-clause-reader
returns-in_err-expect_end-clause-reader g c = grind arith

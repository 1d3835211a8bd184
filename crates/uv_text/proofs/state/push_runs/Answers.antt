use Rattle.uv_text.proofs.Names.{◌≡◌, ◌++◌, length, Option, ap, ◌∙◌, arith, Id, run_text, runs_upto, subst, run_by, err_from_is_err_and, CutShort}
use Rattle.uv_model.specs.After.{after}
use Rattle.uv_text.proofs.Pieces.{one_more, runs_upto-more}
use Rattle.uv_text.proofs.Cuts.{turn_cut}
use Rattle.uv_text.proofs.state.push_runs.Goals as goal

pub loop-worker-preserved : goal.loop-worker-preserved
loop-worker-preserved g c =
    let p = g.M.Machine.program c.args.machine.now in
    let s = after p (g.M.Machine.standing c.args.machine.now) in
    let worker = c.loop-worker.worker in
    let text = c.loop-worker.text.items in
    c.in_ok-push_run.ensures
    ∙ ap (λ (run : Option Id). text ++ run_text p s worker run) c.run_by.ensures
    ∙ one_more (runs_upto p s) worker c.args.text.now.items text _ (runs_upto-more p s worker) c.loop-worker.invariant

pub returns : goal.returns
returns g c =
    let p = g.M.Machine.program c.args.machine.now in
    let s = after p (g.M.Machine.standing c.args.machine.now) in
    let all : c.loop-worker.worker ≡ length s.running = omega (arith, c.loop-worker-test.false, c.workers-worker-end.ensures) in
    c.loop-worker.invariant ∙ ap (λ n. c.args.text.now.items ++ runs_upto p s n) all

pub returns-in_err-push_run : goal.returns-in_err-push_run
returns-in_err-push_run g c =
    let p = g.M.Machine.program c.args.machine.now in
    let s = after p (g.M.Machine.standing c.args.machine.now) in
    let worker = c.loop-worker.worker in
    let text = c.loop-worker.text.items in
    let exit = c.from_residual in
    let q = err_from_is_err_and exit.result exit.ensures.1 in
    rw (q.1) (turn_cut (runs_upto p s) (λ n. run_text p s n (run_by s n)) (length s.running) worker c.args.text.now.items text _
    (λ n l. runs_upto-more p s n) (omega (arith, c.loop-worker-test.true, c.workers-worker-end.ensures)) c.loop-worker.invariant
    (subst (λ (run : Option Id). CutShort text (run_text p s worker run) c.push_run.new.text.items) c.run_by.ensures c.in_err-push_run.ensures))

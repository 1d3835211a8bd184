use Rattle.uv_script.proofs.ProofNames.{err_from_is_err_and, arith, refl, thread_line}
use Rattle.uv_script.proofs.Writing.{line_cut, feed_cut, line_fed}
use Rattle.uv_script.proofs.text.push_threads.Goals as goal

pub returns-in_err-push_thread_line : goal.returns-in_err-push_thread_line
returns-in_err-push_thread_line c =
    let exit = c.from_residual in
    let p = err_from_is_err_and exit.result exit.ensures.1 in
    rw (p.1) (line_cut (thread_line c.args.names.now) c.args.lines.now c.loop-line.line-index
    _ _ (omega arith) refl _ _ _ c.loop-line.invariant
    c.in_err-push_thread_line.ensures)

pub returns-in_err-extend_from_slice : goal.returns-in_err-extend_from_slice
returns-in_err-extend_from_slice c =
    let exit = c.from_residual-in_err-extend_from_slice in
    let p = err_from_is_err_and exit.result exit.ensures.1 in
    rw (p.1) (feed_cut (thread_line c.args.names.now) c.args.lines.now c.loop-line.line-index
    _ _ (omega arith) refl _ _ _ _ c.loop-line.invariant
    c.in_ok-push_thread_line.ensures c.in_err-extend_from_slice.ensures.items)

pub loop-line-preserved : goal.loop-line-preserved
loop-line-preserved c =
    line_fed (thread_line c.args.names.now) c.args.lines.now c.loop-line.line-index
    _ _ (omega arith) refl _ _ _ _ c.loop-line.invariant
    c.in_ok-push_thread_line.ensures c.in_ok-extend_from_slice.ensures.items

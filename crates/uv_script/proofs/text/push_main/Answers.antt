use Rattle.uv_script.proofs.ProofNames.{err_from_is_err_and, arith, main_line}
use Rattle.uv_script.proofs.Writing.{line_cut, feed_cut, line_fed}
use Rattle.uv_script.proofs.text.push_main.Goals as goal

pub returns-in_err-push_line : goal.returns-in_err-push_line
returns-in_err-push_line c =
    let exit = c.from_residual in
    let p = err_from_is_err_and exit.result exit.ensures.1 in
    rw (p.1) (line_cut (main_line c.args.names.now) c.args.main.now c.loop-op.op-index
    c.op-item.result c.op-item.result (omega arith) c.op-item.is _ _ _ c.loop-op.invariant
    c.in_err-push_line.ensures)

pub returns-in_err-extend_from_slice : goal.returns-in_err-extend_from_slice
returns-in_err-extend_from_slice c =
    let exit = c.from_residual-in_err-extend_from_slice in
    let p = err_from_is_err_and exit.result exit.ensures.1 in
    rw (p.1) (feed_cut (main_line c.args.names.now) c.args.main.now c.loop-op.op-index
    c.op-item.result c.op-item.result (omega arith) c.op-item.is _ _ _ _ c.loop-op.invariant
    c.in_ok-push_line.ensures c.in_err-extend_from_slice.ensures.items)

pub loop-op-preserved : goal.loop-op-preserved
loop-op-preserved c =
    line_fed (main_line c.args.names.now) c.args.main.now c.loop-op.op-index
    c.op-item.result c.op-item.result (omega arith) c.op-item.is _ _ _ _ c.loop-op.invariant
    c.in_ok-push_line.ensures c.in_ok-extend_from_slice.ensures.items

use Rattle.uv_script.proofs.ProofNames.{err_from_is_err_and, arith, callback_line}
use Rattle.uv_script.proofs.Writing.{line_cut, feed_cut, line_fed}
use Rattle.uv_script.proofs.text.push_callback.Goals as goal

pub returns-in_err-push_line : goal.returns-in_err-push_line
returns-in_err-push_line c =
    let exit = c.from_residual in
    let p = err_from_is_err_and exit.result exit.ensures.1 in
    rw (p.1) (line_cut (callback_line c.args.names.now c.args.kind c.args.name) c.args.lines.now c.loop-line.line-index
    c.line-item.result c.line-item.result (omega arith) c.line-item.is _ _ _ c.loop-line.invariant
    c.in_err-push_line.ensures)

pub returns-in_err-extend_from_slice : goal.returns-in_err-extend_from_slice
returns-in_err-extend_from_slice c =
    let exit = c.from_residual-in_err-extend_from_slice in
    let p = err_from_is_err_and exit.result exit.ensures.1 in
    rw (p.1) (feed_cut (callback_line c.args.names.now c.args.kind c.args.name) c.args.lines.now c.loop-line.line-index
    c.line-item.result c.line-item.result (omega arith) c.line-item.is _ _ _ _ c.loop-line.invariant
    c.in_ok-push_line.ensures c.in_err-extend_from_slice.ensures.items)

pub loop-line-preserved : goal.loop-line-preserved
loop-line-preserved c =
    line_fed (callback_line c.args.names.now c.args.kind c.args.name) c.args.lines.now c.loop-line.line-index
    c.line-item.result c.line-item.result (omega arith) c.line-item.is _ _ _ _ c.loop-line.invariant
    c.in_ok-push_line.ensures c.in_ok-extend_from_slice.ensures.items

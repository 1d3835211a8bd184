use Rattle.uv_script.proofs.ProofNames.{err_from_is_err_and, arith}
use Rattle.uv_script.proofs.Writing.{name_cut, name_feed_cut, name_fed}
use Rattle.uv_script.proofs.names.Names.push_declarations.Goals as goal

pub returns-in_err-push_named : goal.returns-in_err-push_named
returns-in_err-push_named c =
    let exit = c.from_residual in
    let p = err_from_is_err_and exit.result exit.ensures.1 in
    rw (p.1) (name_cut c.args.self.now c.loop-number.number (omega (arith, c.len-number-end.ensures.len)) _ _ _ c.loop-number.invariant
    c.in_err-push_named.ensures)

pub returns-in_err-extend_from_slice : goal.returns-in_err-extend_from_slice
returns-in_err-extend_from_slice c =
    let exit = c.from_residual-in_err-extend_from_slice in
    let p = err_from_is_err_and exit.result exit.ensures.1 in
    rw (p.1) (name_feed_cut c.args.self.now c.loop-number.number (omega (arith, c.len-number-end.ensures.len)) _ _ _ _ c.loop-number.invariant
    c.in_ok-push_named.ensures c.in_err-extend_from_slice.ensures.items)

pub loop-number-preserved : goal.loop-number-preserved
loop-number-preserved c =
    name_fed c.args.self.now c.loop-number.number (omega (arith, c.len-number-end.ensures.len)) _ _ _ _ c.loop-number.invariant
    c.in_ok-push_named.ensures c.in_ok-extend_from_slice.ensures.items

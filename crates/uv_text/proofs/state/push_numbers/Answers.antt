use Rattle.uv_text.proofs.Names.{err_from_is_err_and, CutShort, arith, subst, numbered, codes}
use Rattle.uv_text.proofs.Cuts.{each_cut}
use Rattle.uv_text.proofs.state.push_numbers.Goals as goal

pub returns-in_err-push_numbered : goal.returns-in_err-push_numbered
returns-in_err-push_numbered c =
    let exit = c.from_residual in
    let p = err_from_is_err_and exit.result exit.ensures.1 in
    rw (p.1) (each_cut (numbered (codes " ")) c.args.numbers.now c.loop-number.number-index _ c.args.text.now.items c.loop-number.text.items _
    (omega arith) c.loop-number.invariant
    (subst (λ n. CutShort c.loop-number.text.items (numbered (codes " ") n) c.push_numbered.new.text.items) c.from.ensures
    c.in_err-push_numbered.ensures))

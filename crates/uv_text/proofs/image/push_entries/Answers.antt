use Rattle.uv_text.proofs.Names.{err_from_is_err_and, CutShort, arith, subst, codes, entry_text, numbered}
use Rattle.uv_text.proofs.Cuts.{each_cut}
use Rattle.uv_text.proofs.image.push_entries.Goals as goal

pub returns-in_err-push_numbered : goal.returns-in_err-push_numbered
returns-in_err-push_numbered c =
    let exit = c.from_residual in
    let p = err_from_is_err_and exit.result exit.ensures.1 in
    rw (p.1) (each_cut entry_text c.args.heap.now c.loop-entry.entry-index _ c.args.text.now.items c.loop-entry.text.items _ (omega arith)
    c.loop-entry.invariant (subst (λ n. CutShort c.loop-entry.text.items (numbered (codes " ") n) c.push_numbered.new.text.items) c.from.ensures
    c.in_err-push_numbered.ensures))

use Rattle.std.proofs.Common.{refl}
use Rattle.std.proofs.lemmas.Result.{err_from_is_err_and}
use Rattle.uvt_find.specs.Status.{whole, nothing, cut_short}
use Rattle.uvt_find.proofs.running.respond.Goals as goal

pub returns-in_err-told-clause-text : goal.returns-in_err-told-clause-text
returns-in_err-told-clause-text g c = λ tells.
    let p = err_from_is_err_and c.from_residual.result c.from_residual.ensures.1 in
    rw (p.1, p.2, c.in_err-told.ensures.err) (nothing refl)

pub returns-in_err-write_whole-clause-text : goal.returns-in_err-write_whole-clause-text
returns-in_err-write_whole-clause-text g c = λ tells.
    let r = c.from_residual-in_err-write_whole in
    let p = err_from_is_err_and r.result r.ensures.1 in
    rw (p.1, p.2, c.in_err-write_whole.ensures.err) (cut_short c.in_ok-told.told.text.items c.in_ok-told.told.status c.in_ok-told.ensures.told
    (rw c.as_slice.ensures.value at (c.in_err-write_whole.ensures.text tells)))

pub returns-clause-text : goal.returns-clause-text
returns-clause-text g c = λ tells.
    whole c.in_ok-told.told.text.items c.in_ok-told.told.status c.in_ok-told.ensures.told
    (rw c.as_slice.ensures.value at (c.in_ok-write_whole.ensures.text tells))

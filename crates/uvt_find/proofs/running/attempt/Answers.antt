use Rattle.std.proofs.lemmas.Result.{err_from_is_err_and}
use Rattle.uv_asking.specs.Asked.{asked_in}
use Rattle.uvt_find.specs.Status.{answered, status_by}
use Rattle.uvt_find.proofs.Ending.{unread}
use Rattle.uvt_find.proofs.running.attempt.Goals as goal

pub returns-in_err-inquiry-clause-text : goal.returns-in_err-inquiry-clause-text
returns-in_err-inquiry-clause-text g c = λ reads tells.
    let p = err_from_is_err_and c.from_residual.result c.from_residual.ensures.1 in
    rw (p.1, p.2) (unread _ _ c.in_err-inquiry.field-0.0 (c.in_err-inquiry.ensures.inquiry reads))

pub returns-clause-text : goal.returns-clause-text
returns-clause-text g c = λ reads tells.
    answered c.in_ok-inquiry.inquiry.script (asked_in c.in_ok-inquiry.inquiry.asking) (status_by c.respond.result)
    (c.in_ok-inquiry.ensures.inquiry reads) (c.respond.ensures.text tells)

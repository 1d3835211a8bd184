use Rattle.uv_engine.proofs.Names.{[], refl, sym, append-nil, err_from_is_err_and}
use Rattle.uv_engine.proofs.Gathers.{one_text, one_fault}
use Rattle.uv_engine.proofs.conversation.Conversation.do_asked.Goals as goal

pub returns-in-Nothing-clause-text : goal.returns-in-Nothing-clause-text
returns-in-Nothing-clause-text g c = λ tells. rw c.in-Nothing.is (one_text [] refl (sym (append-nil _)))

pub returns-in-Do-clause-text : goal.returns-in-Do-clause-text
returns-in-Do-clause-text g c = rw c.in-Do.is c.perform.ensures.text

pub returns-in_ok-extend_from_slice-in-Bad-clause-text : goal.returns-in_ok-extend_from_slice-in-Bad-clause-text
returns-in_ok-extend_from_slice-in-Bad-clause-text g c = λ tells.
    rw c.in-Bad.is (one_text _ refl c.in_ok-extend_from_slice-in-Bad.ensures.items)

pub returns-in_err-extend_from_slice-in-Bad-clause-text : goal.returns-in_err-extend_from_slice-in-Bad-clause-text
returns-in_err-extend_from_slice-in-Bad-clause-text g c = λ tells.
    let p = err_from_is_err_and c.from_residual.result c.from_residual.ensures.1 in
    rw (p.1, c.in-Bad.is) (one_fault _ refl)

use Rattle.uv_engine.proofs.Names.{refl, err_from_is_err_and}
use Rattle.uv_engine.proofs.Gathers.{one_text, one_fault}
use Rattle.uv_engine.proofs.conversation.Conversation.perform.Goals as goal

pub returns-in_ok-tell-in-Step-clause-text : goal.returns-in_ok-tell-in-Step-clause-text
returns-in_ok-tell-in-Step-clause-text g c = λ tells. rw c.in-Step.is (one_text _ refl c.in_ok-tell-in-Step.ensures.text)

pub returns-in_err-tell-in-Step-clause-text : goal.returns-in_err-tell-in-Step-clause-text
returns-in_err-tell-in-Step-clause-text g c = λ tells.
    let p = err_from_is_err_and c.from_residual.result c.from_residual.ensures.1 in
    rw (p.1, c.in-Step.is) (one_fault _ refl)

pub returns-in_ok-go_back-in-Back-clause-text : goal.returns-in_ok-go_back-in-Back-clause-text
returns-in_ok-go_back-in-Back-clause-text g c = λ tells. rw c.in-Back.is (one_text _ refl c.in_ok-go_back-in-Back.ensures.text)

pub returns-in_err-go_back-in-Back-clause-text : goal.returns-in_err-go_back-in-Back-clause-text
returns-in_err-go_back-in-Back-clause-text g c = λ tells.
    let p = err_from_is_err_and c.from_residual-in_err-go_back-in-Back.result c.from_residual-in_err-go_back-in-Back.ensures.1 in
    rw (p.1, c.in-Back.is) (one_fault _ refl)

pub returns-in_ok-go_forward-in-Forward-clause-text : goal.returns-in_ok-go_forward-in-Forward-clause-text
returns-in_ok-go_forward-in-Forward-clause-text g c = λ tells. rw c.in-Forward.is (one_text _ refl c.in_ok-go_forward-in-Forward.ensures.text)

pub returns-in_err-go_forward-in-Forward-clause-text : goal.returns-in_err-go_forward-in-Forward-clause-text
returns-in_err-go_forward-in-Forward-clause-text g c = λ tells.
    let p = err_from_is_err_and c.from_residual-in_err-go_forward-in-Forward.result c.from_residual-in_err-go_forward-in-Forward.ensures.1 in
    rw (p.1, c.in-Forward.is) (one_fault _ refl)

pub returns-in_ok-add_break-in-AddBreak-clause-text : goal.returns-in_ok-add_break-in-AddBreak-clause-text
returns-in_ok-add_break-in-AddBreak-clause-text g c = λ tells. rw c.in-AddBreak.is (one_text _ refl c.in_ok-add_break-in-AddBreak.ensures.text)

pub returns-in_err-add_break-in-AddBreak-clause-text : goal.returns-in_err-add_break-in-AddBreak-clause-text
returns-in_err-add_break-in-AddBreak-clause-text g c = λ tells.
    let p = err_from_is_err_and c.from_residual-in_err-add_break-in-AddBreak.result c.from_residual-in_err-add_break-in-AddBreak.ensures.1 in
    rw (p.1, c.in-AddBreak.is) (one_fault _ refl)

pub returns-in_ok-clear_breaks-in-ClearBreaks-clause-text : goal.returns-in_ok-clear_breaks-in-ClearBreaks-clause-text
returns-in_ok-clear_breaks-in-ClearBreaks-clause-text g c = λ tells.
    rw c.in-ClearBreaks.is (one_text _ refl c.in_ok-clear_breaks-in-ClearBreaks.ensures.text)

pub returns-in_err-clear_breaks-in-ClearBreaks-clause-text : goal.returns-in_err-clear_breaks-in-ClearBreaks-clause-text
returns-in_err-clear_breaks-in-ClearBreaks-clause-text g c = λ tells.
    let p = err_from_is_err_and c.from_residual-in_err-clear_breaks-in-ClearBreaks.result
    c.from_residual-in_err-clear_breaks-in-ClearBreaks.ensures.1 in
    rw (p.1, c.in-ClearBreaks.is) (one_fault _ refl)

pub returns-in_ok-back_to_break-in-BackToBreak-clause-text : goal.returns-in_ok-back_to_break-in-BackToBreak-clause-text
returns-in_ok-back_to_break-in-BackToBreak-clause-text g c = λ tells.
    rw c.in-BackToBreak.is (one_text _ refl c.in_ok-back_to_break-in-BackToBreak.ensures.text)

pub returns-in_err-back_to_break-in-BackToBreak-clause-text : goal.returns-in_err-back_to_break-in-BackToBreak-clause-text
returns-in_err-back_to_break-in-BackToBreak-clause-text g c = λ tells.
    let p = err_from_is_err_and c.from_residual-in_err-back_to_break-in-BackToBreak.result
    c.from_residual-in_err-back_to_break-in-BackToBreak.ensures.1 in
    rw (p.1, c.in-BackToBreak.is) (one_fault _ refl)

pub returns-in_ok-push_named-in-StateOf-clause-text : goal.returns-in_ok-push_named-in-StateOf-clause-text
returns-in_ok-push_named-in-StateOf-clause-text g c = λ tells. rw c.in-StateOf.is (one_text _ refl c.in_ok-push_named-in-StateOf.ensures)

pub returns-in_err-push_named-in-StateOf-clause-text : goal.returns-in_err-push_named-in-StateOf-clause-text
returns-in_err-push_named-in-StateOf-clause-text g c = λ tells.
    let p = err_from_is_err_and c.from_residual-in_err-push_named-in-StateOf.result c.from_residual-in_err-push_named-in-StateOf.ensures.1 in
    rw (p.1, c.in-StateOf.is) (one_fault _ refl)

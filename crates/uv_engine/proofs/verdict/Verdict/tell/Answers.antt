use Rattle.uv_engine.proofs.Names.{List, ℕ, ◌++◌, ap, ◌∙◌, err_from_is_err_and, verdict_text}
use Rattle.uv_engine.proofs.Replays.{told_short}
use Rattle.uv_engine.proofs.verdict.Verdict.tell.Goals as goal

pub returns-in_err-write_out-clause-text : goal.returns-in_err-write_out-clause-text
returns-in_err-write_out-clause-text g c = λ tells.
    let p = err_from_is_err_and c.from_residual-in_err-write_out.result c.from_residual-in_err-write_out.ensures.1 in
    let text = c.in_ok-push_text.ensures ∙ ap (λ (xs : List ℕ). xs ++ verdict_text c.args.self) c.new-text.ensures.items in
    rw (p.1, p.2 ∙ c.in_err-write_out.ensures.err)
    (told_short c.args.self _ c.push_text.new.text.items _ text (c.in_err-write_out.ensures.text tells))

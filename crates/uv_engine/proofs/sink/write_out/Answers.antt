use Rattle.uv_engine.proofs.Names.{◌∙◌, err_from_is_err_and}
use Rattle.uv_engine.proofs.Gathers.{cut_of_short, cut_behind, all_written}
use Rattle.uv_engine.proofs.sink.write_out.Goals as goal

pub returns-in_err-write_text-clause-text : goal.returns-in_err-write_text-clause-text
returns-in_err-write_text-clause-text g c = λ tells.
    let p = err_from_is_err_and c.from_residual.result c.from_residual.ensures.1 in
    rw p.1 (cut_of_short _ _ _ (rw c.as_slice.ensures.value at (c.in_err-write_text.ensures.text tells)))

pub returns-then-is_err-clause-text : goal.returns-then-is_err-clause-text
returns-then-is_err-clause-text g c = λ tells.
    cut_behind _ _ _ (c.flush.ensures.written tells ∙ rw c.as_slice.ensures.value at (c.in_ok-write_text.ensures.text tells))

pub returns-clause-text : goal.returns-clause-text
returns-clause-text g c = λ tells.
    all_written _ _ _ _ (c.flush.ensures.written tells ∙ rw c.as_slice.ensures.value at (c.in_ok-write_text.ensures.text tells))
    c.clear.ensures.items

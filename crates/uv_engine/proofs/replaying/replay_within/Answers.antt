use Rattle.uv_engine.proofs.Names.{err_from_is_err_and, judged}
use Rattle.uv_engine.proofs.Replays.{fails_replay}
use Rattle.uv_engine.proofs.Faults.{on_answer, reading_replays, telling_replays}
use Rattle.uv_engine.proofs.replaying.replay_within.Goals as goal

pub returns-in_err-verdict-clause-text : goal.returns-in_err-verdict-clause-text
returns-in_err-verdict-clause-text g c = λ reads tells.
    let p = err_from_is_err_and c.from_residual.result c.from_residual.ensures.1 in
    rw (p.1, p.2) (fails_replay _ _ c.in_err-verdict.field-0.0 (c.in_err-verdict.ensures.verdict reads))

pub returns-clause-text : goal.returns-clause-text
returns-clause-text g c = λ reads tells. judged c.in_ok-verdict.verdict (c.in_ok-verdict.ensures.verdict reads) (c.tell.ensures.text tells)

pub returns-in_err-verdict-clause-within : goal.returns-in_err-verdict-clause-within
returns-in_err-verdict-clause-within g c =
    let p = err_from_is_err_and c.from_residual.result c.from_residual.ensures.1 in
    rw (p.1, p.2) c.in_err-verdict.ensures.within

pub returns-in_err-verdict-clause-err : goal.returns-in_err-verdict-clause-err
returns-in_err-verdict-clause-err g c =
    let p = err_from_is_err_and c.from_residual.result c.from_residual.ensures.1 in
    rw (p.1, p.2) (reading_replays _ c.in_err-verdict.ensures.err)

pub returns-clause-within : goal.returns-clause-within
returns-clause-within g c = on_answer c.tell.result c.in_ok-verdict.ensures.within

pub returns-clause-err : goal.returns-clause-err
returns-clause-err g c = telling_replays c.tell.result c.tell.ensures.err

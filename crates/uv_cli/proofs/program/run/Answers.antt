use Rattle.std.proofs.Common.{arith, Some, refl, ap, subst, ◌∙◌}
use Rattle.uv_cli.specs.Status.{conversed, replayed, lived, bad_words, no_memory}
use Rattle.uv_words.specs.Words.{IsJob}
use Rattle.uv_cli.proofs.Ending.{no_memory_ends, no_memory_status, asks_something}
use Rattle.uv_cli.proofs.program.run.Goals as goal

pub returns-in-Ok-Debug-clause-text : goal.returns-in-Ok-Debug-clause-text
returns-in-Ok-Debug-clause-text g c = λ reads tells.
    conversed (c.in-Ok-Debug.ensures.job ∙ ap Some c.in-Ok-Debug.field-0-is) (c.debug.ensures.text reads tells)

pub returns-in-Ok-Replay-clause-text : goal.returns-in-Ok-Replay-clause-text
returns-in-Ok-Replay-clause-text g c = λ reads tells.
    replayed (c.in-Ok-Replay.ensures.job ∙ ap Some c.in-Ok-Replay.field-0-is) (c.rerun.ensures.text reads tells)

pub live-requires : goal.live-requires
live-requires g c = (c.type_bounds.sync-H, subst IsJob c.in-Ok-Live.field-0-is c.in-Ok-Live.ensures.within)

pub returns-in-Ok-Live-clause-text : goal.returns-in-Ok-Live-clause-text
returns-in-Ok-Live-clause-text g c = λ reads tells.
    lived c.in-Ok-Live.workers (c.in-Ok-Live.ensures.job ∙ ap Some c.in-Ok-Live.field-0-is) (c.live.ensures.text reads tells)

pub returns-in-Err-BadWords-clause-text : goal.returns-in-Err-BadWords-clause-text
returns-in-Err-BadWords-clause-text g c = λ reads tells.
    bad_words (c.in-Err-BadWords.ensures.none c.in-Err-BadWords.field-0-is) c.bad_words.ensures refl

pub returns-in-Err-Memory-clause-text : goal.returns-in-Err-Memory-clause-text
returns-in-Err-Memory-clause-text g c = λ reads tells. no_memory c.fail.ensures refl

pub returns-in-Ok-Debug-clause-status : goal.returns-in-Ok-Debug-clause-status
returns-in-Ok-Debug-clause-status g c = rw (c.in-Ok-Debug.ensures.job ∙ ap Some c.in-Ok-Debug.field-0-is) c.debug.ensures.status

pub returns-in-Ok-Debug-clause-untouched : goal.returns-in-Ok-Debug-clause-untouched
returns-in-Ok-Debug-clause-untouched g c = asks_something _ _ c.in-Ok-Debug.ensures.job

pub returns-in-Ok-Replay-clause-status : goal.returns-in-Ok-Replay-clause-status
returns-in-Ok-Replay-clause-status g c = rw (c.in-Ok-Replay.ensures.job ∙ ap Some c.in-Ok-Replay.field-0-is) c.rerun.ensures.status

pub returns-in-Ok-Replay-clause-untouched : goal.returns-in-Ok-Replay-clause-untouched
returns-in-Ok-Replay-clause-untouched g c = asks_something _ _ c.in-Ok-Replay.ensures.job

pub returns-in-Ok-Live-clause-status : goal.returns-in-Ok-Live-clause-status
returns-in-Ok-Live-clause-status g c = rw (c.in-Ok-Live.ensures.job ∙ ap Some c.in-Ok-Live.field-0-is) c.live.ensures.status

pub returns-in-Ok-Live-clause-untouched : goal.returns-in-Ok-Live-clause-untouched
returns-in-Ok-Live-clause-untouched g c = asks_something _ _ c.in-Ok-Live.ensures.job

pub returns-in-Err-BadWords-clause-status : goal.returns-in-Err-BadWords-clause-status
returns-in-Err-BadWords-clause-status g c = rw (c.in-Err-BadWords.ensures.none c.in-Err-BadWords.field-0-is, c.bad_words.ensures) refl

pub returns-in-Err-BadWords-clause-untouched : goal.returns-in-Err-BadWords-clause-untouched
returns-in-Err-BadWords-clause-untouched g c = λ none. (refl, refl)

pub returns-in-Err-Memory-clause-status : goal.returns-in-Err-Memory-clause-status
returns-in-Err-Memory-clause-status g c = rw c.fail.ensures (no_memory_status _)

pub returns-in-Err-Memory-clause-untouched : goal.returns-in-Err-Memory-clause-untouched
returns-in-Err-Memory-clause-untouched g c = λ none. (refl, refl)

pub returns-in-Err-BadWords-clause-within : goal.returns-in-Err-BadWords-clause-within
returns-in-Err-BadWords-clause-within g c = λ n reads. omega arith

pub returns-in-Err-Memory-clause-within : goal.returns-in-Err-Memory-clause-within
returns-in-Err-Memory-clause-within g c = λ n reads. absurd (n c.fail.ensures)

pub returns-in-Ok-Debug-clause-ends : goal.returns-in-Ok-Debug-clause-ends
returns-in-Ok-Debug-clause-ends g c = rw (c.in-Ok-Debug.ensures.job ∙ ap Some c.in-Ok-Debug.field-0-is) c.debug.ensures.ends

pub returns-in-Ok-Replay-clause-ends : goal.returns-in-Ok-Replay-clause-ends
returns-in-Ok-Replay-clause-ends g c = rw (c.in-Ok-Replay.ensures.job ∙ ap Some c.in-Ok-Replay.field-0-is) c.rerun.ensures.ends

pub returns-in-Ok-Live-clause-ends : goal.returns-in-Ok-Live-clause-ends
returns-in-Ok-Live-clause-ends g c = rw (c.in-Ok-Live.ensures.job ∙ ap Some c.in-Ok-Live.field-0-is) c.live.ensures.ends

pub returns-in-Err-BadWords-clause-ends : goal.returns-in-Err-BadWords-clause-ends
returns-in-Err-BadWords-clause-ends g c = rw (c.in-Err-BadWords.ensures.none c.in-Err-BadWords.field-0-is) (refl, refl)

pub returns-in-Err-Memory-clause-ends : goal.returns-in-Err-Memory-clause-ends
returns-in-Err-Memory-clause-ends g c = rw c.fail.ensures (no_memory_ends _ _ _ _)

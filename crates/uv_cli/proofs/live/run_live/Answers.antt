use Rattle.std.proofs.Common.{ℕ, List, subst}
use Rattle.uv_script.specs.Writes.{CutShort}
use Rattle.uv_cli.specs.Live.{cut_short}
use Rattle.uv_cli.proofs.Recorded.{recording}
use Rattle.uv_cli.proofs.live.run_live.Goals as goal

pub returns-clause-text : goal.returns-clause-text
returns-clause-text g c = λ reads tells.
    let items = c.in-Ok-recording_text.text.items in
    let is = recording c.args.workers (g.R.Source.remaining c.args.reader.now) items c.in-Ok.script c.with_workers-script.result
    c.in-Ok-live.session (c.in-Ok.ensures.script reads) c.with_workers-script.ensures c.in-Ok-live.ensures.program c.in-Ok-live.ensures.end
    c.in-Ok-live.ensures.settled c.in-Ok-recording_text.ensures.text in
    cut_short items is
    (subst (λ (xs : List ℕ). CutShort (g.W.Sink.written c.args.writer.now) xs (g.W.Sink.written c.write_whole.new.writer)) c.as_slice.ensures.value
    (c.in-Err-write_whole.ensures.text tells))

use Rattle.std.proofs.Common.{◌^◌, Err, refl, subst}
use Rattle.uv_cli.specs.declared.live.NoRecording.{NoRecording}
use Rattle.uv_engine.specs.Devices.{TakesWithin}
use Rattle.uv_cli.specs.Live.{OnRead, RunsLive, recorded, bad_script, broken, nothing}
use Rattle.uv_cli.proofs.program.live.Goals as goal

pub returns-in-Ok-clause-text : goal.returns-in-Ok-clause-text
returns-in-Ok-clause-text g c = λ reads tells. recorded (c.in-Ok.ensures.text reads tells)

pub returns-in-Err-BadScript-clause-text : goal.returns-in-Err-BadScript-clause-text
returns-in-Err-BadScript-clause-text g c = λ reads tells.
    let h = subst (λ (why : NoRecording). RunsLive c.args.workers (g.R.Source.remaining c.args.reader.now) (Err why)
    (g.W.Sink.written c.args.writer.now) (g.W.Sink.written c.run_live.new.writer)) c.in-Err-BadScript.field-0-is
    (c.in-Err-BadScript.ensures.text reads tells) in
    bad_script c.in-Err-BadScript.line h.0 h.1

pub returns-in-Err-Unread-clause-text : goal.returns-in-Err-Unread-clause-text
returns-in-Err-Unread-clause-text g c = λ reads tells.
    let h = subst (λ (why : NoRecording). RunsLive c.args.workers (g.R.Source.remaining c.args.reader.now) (Err why)
    (g.W.Sink.written c.args.writer.now) (g.W.Sink.written c.run_live.new.writer)) c.in-Err-Unread.field-0-is
    (c.in-Err-Unread.ensures.text reads tells) in
    broken (nothing h)

pub returns-in-Err-Failed-clause-text : goal.returns-in-Err-Failed-clause-text
returns-in-Err-Failed-clause-text g c = λ reads tells.
    let h = subst (λ (why : NoRecording). RunsLive c.args.workers (g.R.Source.remaining c.args.reader.now) (Err why)
    (g.W.Sink.written c.args.writer.now) (g.W.Sink.written c.run_live.new.writer)) c.in-Err-Failed.field-0-is
    (c.in-Err-Failed.ensures.text reads tells) in
    broken (nothing h)

pub returns-in-Err-Unwritten-clause-text : goal.returns-in-Err-Unwritten-clause-text
returns-in-Err-Unwritten-clause-text g c = λ reads tells.
    let h = subst (λ (why : NoRecording). RunsLive c.args.workers (g.R.Source.remaining c.args.reader.now) (Err why)
    (g.W.Sink.written c.args.writer.now) (g.W.Sink.written c.run_live.new.writer)) c.in-Err-Unwritten.field-0-is
    (c.in-Err-Unwritten.ensures.text reads tells) in
    broken h

pub returns-in-Err-BadScript-clause-within : goal.returns-in-Err-BadScript-clause-within
returns-in-Err-BadScript-clause-within g c = λ n reads.
    subst (λ (why : NoRecording). OnRead (Err why) (g.R.Source.Tells → TakesWithin (2 ^ 30) (g.R.Source.remaining c.args.reader.now)
    (g.R.Source.remaining c.run_live.new.reader))) c.in-Err-BadScript.field-0-is c.in-Err-BadScript.ensures.within reads

pub returns-in-Err-Failed-clause-within : goal.returns-in-Err-Failed-clause-within
returns-in-Err-Failed-clause-within g c = λ n reads. absurd (n refl)

pub returns-in-Err-Unread-clause-within : goal.returns-in-Err-Unread-clause-within
returns-in-Err-Unread-clause-within g c = λ n reads. absurd (n refl)

pub returns-in-Err-Unwritten-clause-within : goal.returns-in-Err-Unwritten-clause-within
returns-in-Err-Unwritten-clause-within g c = λ n reads. absurd (n refl)

use Rattle.uv_engine.proofs.Names.{Ok, arith, err_from_is_err_and, left}
use Rattle.uv_engine.proofs.Starting.{no_start, no_machine, talked, begun_session, reads_whole}
use Rattle.uv_engine.proofs.Faults.{talked_within, talk_converses, talk_counts}
use Rattle.uv_engine.proofs.Near.{talk_stops}
use Rattle.uv_engine.proofs.conversation.converse_within.Goals as goal

pub returns-in_err-script-clause-text : goal.returns-in_err-script-clause-text
returns-in_err-script-clause-text g c = grind (arith, reads_whole, err_from_is_err_and, no_start)

pub returns-in_err-machine-clause-text : goal.returns-in_err-machine-clause-text
returns-in_err-machine-clause-text g c = grind (arith, err_from_is_err_and, no_machine)

pub returns-clause-text : goal.returns-clause-text
returns-clause-text g c = λ reads tells.
    let input = g.R.Source.remaining c.args.reader.now in
    let rest = left c.read_script.new.input (g.R.Source.remaining c.read_script.new.reader) in
    let script = c.in_ok-script.script in
    let session = begun_session c.new.result script _ c.new.ensures.program c.in_ok-machine.ensures.program c.new.ensures.limit c.new.ensures.standing
    c.new.ensures.taken_back c.new.ensures.breaks in
    let read = reads_whole c.new-input.result input rest (Ok script) c.new-input.ensures.empty (c.in_ok-script.ensures.script reads) in
    talked input script rest c.new.result _ _ c.talk.result read session c.talk.ensures.err (c.talk.ensures.text reads tells)

pub returns-in_err-script-clause-within : goal.returns-in_err-script-clause-within
returns-in_err-script-clause-within g c = grind arith

pub returns-in_err-script-clause-err : goal.returns-in_err-script-clause-err
returns-in_err-script-clause-err g c = grind arith

pub returns-in_err-machine-clause-within : goal.returns-in_err-machine-clause-within
returns-in_err-machine-clause-within g c = grind arith

pub returns-in_err-machine-clause-err : goal.returns-in_err-machine-clause-err
returns-in_err-machine-clause-err g c = grind arith

pub returns-clause-within : goal.returns-clause-within
returns-clause-within g c = talked_within c.talk.result c.talk.ensures.err c.talk.ensures.within
    (λ within reads. omega (arith, within reads, c.in_ok-script.ensures.budget reads, c.new-input.ensures.budget))

pub returns-clause-err : goal.returns-clause-err
returns-clause-err g c = talk_converses c.talk.result c.talk.ensures.err

pub returns-clause-reader : goal.returns-clause-reader
returns-clause-reader g c =
    let reader = g.R.Source.remaining c.args.reader.now in
    talk_counts c.talk.result g.R.Source.Tells c.args.limit c.read_script.new.input.budget reader
    (g.R.Source.remaining c.read_script.new.reader) (g.R.Source.given c.args.reader.now) (g.R.Source.given c.read_script.new.reader)
    (g.R.Source.given c.talk.new.reader) (g.R.Source.failures c.args.reader.now) (g.R.Source.failures c.read_script.new.reader)
    (g.R.Source.failures c.talk.new.reader)
    (λ reads. omega (arith, c.in_ok-script.ensures.budget reads, c.new-input.ensures.budget))
    (λ few. omega (arith, c.in_ok-script.ensures.given, c.new-input.ensures.budget, few))
    c.in_ok-script.ensures.reader c.talk.ensures.reader

pub returns-in_err-script-clause-stops : goal.returns-in_err-script-clause-stops
returns-in_err-script-clause-stops g c = grind arith

pub returns-clause-stops : goal.returns-clause-stops
returns-clause-stops g c = talk_stops g.R.Source.Tells c.talk.result _ _ c.talk.ensures.err

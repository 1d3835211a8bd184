use Rattle.uv_engine.proofs.Names.{arith, err_from_is_err_and, unread_in, Start, ◌∙◌}
use Rattle.uv_engine.proofs.Replays.{fails_then, judges}
use Rattle.uv_engine.proofs.Faults.{answer_taken, talk_counts}
use Rattle.uv_engine.proofs.replaying.judge.Goals as goal

pub returns-in_err-script-clause-verdict : goal.returns-in_err-script-clause-verdict
returns-in_err-script-clause-verdict g c = grind (arith, err_from_is_err_and, fails_then)

pub returns-clause-verdict : goal.returns-clause-verdict
returns-clause-verdict g c = λ reads.
    let first = rw c.new.ensures.empty at (c.in_ok-version.ensures.read reads) in
    let script = rw (← c.in_ok-begin.ensures.program) at (c.in_ok-script.ensures.read reads) in
    judges (unread_in c.in_ok-version.version) c.judge_rest.result first script (c.judge_rest.ensures.verdict reads)

pub returns-in_err-version-clause-within : goal.returns-in_err-version-clause-within
returns-in_err-version-clause-within g c = grind arith

pub returns-in_err-script-clause-within : goal.returns-in_err-script-clause-within
returns-in_err-script-clause-within g c = grind arith

pub returns-in_err-begin-clause-within : goal.returns-in_err-begin-clause-within
returns-in_err-begin-clause-within g c = grind arith

pub returns-clause-within : goal.returns-clause-within
returns-clause-within g c =
    answer_taken c.judge_rest.result g.R.Source.Tells c.args.limit c.read_script.new.self.input.budget c.judge_rest.new.input.input.budget
    (g.R.Source.remaining c.args.reader.now) (g.R.Source.remaining c.read_script.new.reader) (g.R.Source.remaining c.judge_rest.new.reader)
    c.judge_rest.ensures.budget
    (λ reads. omega (arith, c.new.ensures.budget, c.in_ok-version.ensures.budget reads, c.in_ok-script.ensures.budget reads))

pub returns-clause-reader : goal.returns-clause-reader
returns-clause-reader g c =
    talk_counts c.judge_rest.result g.R.Source.Tells c.args.limit c.read_script.new.self.input.budget (g.R.Source.remaining c.args.reader.now)
    (g.R.Source.remaining c.read_script.new.reader) (g.R.Source.given c.args.reader.now) (g.R.Source.given c.read_script.new.reader)
    (g.R.Source.given c.judge_rest.new.reader) (g.R.Source.failures c.args.reader.now) (g.R.Source.failures c.read_script.new.reader)
    (g.R.Source.failures c.judge_rest.new.reader)
    (λ reads. omega (arith, c.new.ensures.budget, c.in_ok-version.ensures.budget reads, c.in_ok-script.ensures.budget reads))
    (λ few. grind arith)
    (c.in_ok-script.ensures.reader ∙ c.in_ok-version.ensures.reader) c.judge_rest.ensures.reader

use Rattle.uv_engine.proofs.Names.{arith, ap, ◌∙◌, err_from_is_err_and, lines_of, Program}
use Rattle.uv_engine.proofs.Talking.{can_write, can_answer, can_next, cut_waiting, cut_writing, cut_answer, talk_ends, talk_quits}
use Rattle.uv_engine.proofs.conversation.Conversation.talk.Goals as goal

pub returns-in_err-write_if_waiting-clause-text : goal.returns-in_err-write_if_waiting-clause-text
returns-in_err-write_if_waiting-clause-text g c = grind (arith, err_from_is_err_and, cut_writing)

pub returns-in_err-asked-clause-text : goal.returns-in_err-asked-clause-text
returns-in_err-asked-clause-text g c = λ reads tells.
    let written = can_write (c.lines.invariant.text reads tells) (c.in_ok-write_if_waiting.ensures.text tells) in
    rw ((err_from_is_err_and c.from_residual-in_err-asked.result c.from_residual-in_err-asked.ensures.1).1)
    (cut_waiting c.every_line_asks.ensures.some written)

pub returns-in_default-clause-text : goal.returns-in_default-clause-text
returns-in_default-clause-text g c = λ reads tells.
    let written = can_write (c.lines.invariant.text reads tells) (c.in_ok-write_if_waiting.ensures.text tells) in
    let nothing_left = rw c.in_default.is at (c.in_ok-asked.ensures.line reads) in
    talk_ends _ _ c.every_line_asks.ensures.some written (ap lines_of nothing_left) (c.finish.ensures.text tells)

pub returns-then-is_quit-clause-text : goal.returns-then-is_quit-clause-text
returns-then-is_quit-clause-text g c = λ reads tells.
    let written = can_write (c.lines.invariant.text reads tells) (c.in_ok-write_if_waiting.ensures.text tells) in
    let names = c.names-names.ensures.names ∙ ap (λ (p : Program). p.names) (c.script.ensures ∙ c.machine.ensures.program) in
    let taken = rw (c.in-Some.is, names) at (c.in_ok-asked.ensures.line reads) in
    let before = can_next _ _ {line = taken.line} taken.fed taken.takes written in
    let asks = taken.asks in
    talk_quits _ _ c.every_line_asks.ensures.some before (rw (← (c.is_quit.ensures.quit c.if-is_quit.true)) asks)
    (c.finish-then-is_quit.ensures.text tells)

pub returns-in_err-answer-clause-text : goal.returns-in_err-answer-clause-text
returns-in_err-answer-clause-text g c = λ reads tells.
    let written = can_write (c.lines.invariant.text reads tells) (c.in_ok-write_if_waiting.ensures.text tells) in
    let names = c.names-names.ensures.names ∙ ap (λ (p : Program). p.names) (c.script.ensures ∙ c.machine.ensures.program) in
    let taken = rw (c.in-Some.is, names) at (c.in_ok-asked.ensures.line reads) in
    let before = can_next _ _ {line = taken.line} taken.fed taken.takes written in
    let asks = taken.asks in
    let other = c.is_quit.ensures.other c.if-is_quit.false in
    rw ((err_from_is_err_and c.from_residual-in_err-answer.result c.from_residual-in_err-answer.ensures.1).1)
    (cut_answer c.every_line_asks.ensures.some before asks other (c.in_err-answer.ensures.text tells))

pub returns-in_err-spill-clause-text : goal.returns-in_err-spill-clause-text
returns-in_err-spill-clause-text g c = λ reads tells.
    let written = can_write (c.lines.invariant.text reads tells) (c.in_ok-write_if_waiting.ensures.text tells) in
    let names = c.names-names.ensures.names ∙ ap (λ (p : Program). p.names) (c.script.ensures ∙ c.machine.ensures.program) in
    let taken = rw (c.in-Some.is, names) at (c.in_ok-asked.ensures.line reads) in
    let before = can_next _ _ {line = taken.line} taken.fed taken.takes written in
    let asks = taken.asks in
    let other = c.is_quit.ensures.other c.if-is_quit.false in
    let answered = can_answer before asks other (c.in_ok-answer.ensures.text tells) c.in_ok-answer.ensures.session in
    rw ((err_from_is_err_and c.from_residual-in_err-spill.result c.from_residual-in_err-spill.ensures.1).1)
    (cut_writing c.every_line_asks.ensures.some answered (c.in_err-spill.ensures.text tells))

pub returns-in_default-clause-within : goal.returns-in_default-clause-within
returns-in_default-clause-within g c = grind arith

pub returns-then-is_quit-clause-within : goal.returns-then-is_quit-clause-within
returns-then-is_quit-clause-within g c = grind arith

pub lines-preserved : goal.lines-preserved
lines-preserved g c = record {
  end = c.in_ok-asked.ensures.end;
  text = λ reads tells.
      let written = can_write (c.lines.invariant.text reads tells) (c.in_ok-write_if_waiting.ensures.text tells) in
      let names = c.names-names.ensures.names ∙ ap (λ (p : Program). p.names) (c.script.ensures ∙ c.machine.ensures.program) in
      let taken = rw (c.in-Some.is, names) at (c.in_ok-asked.ensures.line reads) in
      let before = can_next _ _ {line = taken.line} taken.fed taken.takes written in
      let asks = taken.asks in
      let other = c.is_quit.ensures.other c.if-is_quit.false in
      can_write (can_answer before asks other (c.in_ok-answer.ensures.text tells) c.in_ok-answer.ensures.session)
      (c.in_ok-spill.ensures.text tells);
  budget = λ reads. omega (arith, c.lines.invariant.budget reads, c.in_ok-asked.ensures.budget reads);
  given = grind arith;
  none_read_failed = c.in_ok-asked.ensures.reader ∙ c.lines.invariant.none_read_failed;
  none_write_failed = grind arith;
}

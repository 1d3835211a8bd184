use Rattle.uv_engine.proofs.Names.{err_from_is_err_and, begins_itself, begins_more, cut_before, appended_text, sym, ◌∙◌}
use Rattle.uv_engine.proofs.Replies.{took, told_stop, told_on}
use Rattle.uv_engine.proofs.reply.tell.Goals as goal

pub returns-in_err-push_appended-in-Ok-clause-text : goal.returns-in_err-push_appended-in-Ok-clause-text
returns-in_err-push_appended-in-Ok-clause-text g c =
    let s = c.args.session.now in
    let outcome = c.in-Ok.outcome in
    let taken = took s c.do_event.new.self c.args.event outcome c.in-Ok.ensures in
    let exit = c.from_residual in
    let p = err_from_is_err_and exit.result exit.ensures.1 in
    rw (p.1, taken) (cut_before c.args.text.now.items (appended_text s.program outcome.seen) _ _
    (rw (c.script.ensures, c.machine.ensures.program, c.do_event.ensures.same_program) at c.in_err-push_appended-in-Ok.ensures)
    (search (begins_itself, begins_more)))

pub returns-then-stops-clause-text : goal.returns-then-stops-clause-text
returns-then-stops-clause-text g c =
    let s = c.args.session.now in
    let t = c.do_event.new.self in
    let outcome = c.in-Ok.outcome in
    let line = rw (c.script.ensures, c.machine.ensures.program, c.do_event.ensures.same_program) at c.in_ok-push_appended-in-Ok.ensures in
    let stop = rw c.steps.ensures at c.in_ok-push_break-in-Ok.ensures in
    rw (took s t c.args.event outcome c.in-Ok.ensures)
    (told_stop s.program t outcome.seen _ _ _ (sym c.stops.ensures ∙ c.if-stops.true) line stop)

pub returns-else-stops-clause-text : goal.returns-else-stops-clause-text
returns-else-stops-clause-text g c =
    let s = c.args.session.now in
    let t = c.do_event.new.self in
    let outcome = c.in-Ok.outcome in
    let line = rw (c.script.ensures, c.machine.ensures.program, c.do_event.ensures.same_program) at c.in_ok-push_appended-in-Ok.ensures in
    rw (took s t c.args.event outcome c.in-Ok.ensures)
    (told_on s.program t outcome.seen _ _ (sym c.stops.ensures ∙ c.if-stops.false) line)

use Rattle.uv_run.proofs.Names.{List, ◌∙◌, PoolEvent}
use Rattle.uv_run.proofs.Answers.{line_events, loop_ok}
use Rattle.uv_run.proofs.following.step.Goals as goal

-- the list has the event of its line
pub returns-clause-events : goal.returns-clause-events
returns-clause-events g c =
    line_events c.args.session.now c.do_event.new.self _ c.in_ok-outcome.outcome _ c.reserve.new.self.events.items _
    (c.script.ensures ∙ c.machine.ensures.program) c.in_ok-outcome.ensures (◌∙◌ {A = List PoolEvent} c.reserve.ensures.events c.requires)
    c.push_line.ensures

-- and that is its answer
pub returns-clause-answer : goal.returns-clause-answer
returns-clause-answer g c = loop_ok c.args.session.now c.do_event.new.self c.in_ok-outcome.outcome c.in_ok-outcome.ensures

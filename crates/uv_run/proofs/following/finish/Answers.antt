use Rattle.uv_run.proofs.Names.{List, ◌∙◌, PoolEvent}
use Rattle.uv_run.proofs.Answers.{line_events, worker_ended}
use Rattle.uv_run.proofs.following.finish.Goals as goal

-- the list has the event of its line
pub returns-clause-events : goal.returns-clause-events
returns-clause-events g c =
    line_events c.args.session.now c.hand_in.new.session _ c.in_ok-outcome.outcome _ c.reserve.new.self.events.items _
    (c.script.ensures ∙ c.machine.ensures.program) c.in_ok-outcome.ensures (◌∙◌ {A = List PoolEvent} c.reserve.ensures.events c.requires.events)
    c.push_line.ensures

-- a loop at its end stays there
pub returns-clause-ended : goal.returns-clause-ended
returns-clause-ended g c = worker_ended _ _ _ _ tt c.in_ok-outcome.ensures

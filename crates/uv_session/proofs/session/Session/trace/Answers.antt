use Rattle.uv_session.proofs.Names.{◌≤◌, ◌-◌, length, arith, ◌∙◌, common_steps}
use Rattle.uv_session.proofs.Traces.{those_all, is_documented, is_once, is_legal}
use Rattle.uv_session.proofs.session.Session.trace.Goals as goal

pub returns-clause-lines : goal.returns-clause-lines
returns-clause-lines g c = grind (arith, length, common_steps, those_all)

pub returns-clause-documented : goal.returns-clause-documented
returns-clause-documented g c = is_documented c.args.self.now c.loop-step.trace.items (returns-clause-lines g c)

pub returns-clause-once : goal.returns-clause-once
returns-clause-once g c = is_once c.args.self.now c.loop-step.trace.items (returns-clause-lines g c)

pub returns-clause-pool : goal.returns-clause-pool
returns-clause-pool g c = is_legal c.args.self.now c.loop-step.trace.items (returns-clause-lines g c)

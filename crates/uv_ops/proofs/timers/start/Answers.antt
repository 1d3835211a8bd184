use Rattle.uv_ops.proofs.Names.{◌∙◌, start, held, start_does}
use Rattle.uv_ops.proofs.timers.start.Goals as goal

pub returns-clause-performs : goal.returns-clause-performs
returns-clause-performs c s h reached =
    let did = c.reschedule.ensures in let asked = c.in_ok-id.ensures in
    let does = start_does c.reschedule.new.self.step_record (held c.args.memory.now) (held c.reschedule.new.self) c.in_ok-id.id c.in_ok-id.handle _
    c.is_fit.ensures did.frame did.does c.args.timeout c.args.repeat asked.allowed
    (rw c.times.ensures at c.starting-change.ensures) s h reached in
    (does.0, asked.done s h (start s c.args.timeout c.args.repeat) ∙ does.1, does.2)

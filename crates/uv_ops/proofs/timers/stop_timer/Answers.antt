use Rattle.uv_ops.proofs.Names.{held, stop_does}
use Rattle.uv_ops.proofs.timers.stop_timer.Goals as goal

pub returns-clause-does : goal.returns-clause-does
returns-clause-does c =
    let did = c.reschedule.ensures in
    stop_does c.reschedule.new.self.step_record (held c.args.memory.now) (held c.reschedule.new.self) c.args.id c.args.handle _ c.is_fit.ensures
    c.requires.timer did.frame c.stopping.ensures did.does

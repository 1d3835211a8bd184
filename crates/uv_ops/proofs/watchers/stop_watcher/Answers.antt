use Rattle.uv_ops.proofs.Names.{held}
use Rattle.uv_ops.proofs.Stopping.{stops}
use Rattle.uv_ops.proofs.watchers.stop_watcher.Goals as goal

pub returns-clause-does : goal.returns-clause-does
returns-clause-does c =
    stops c.stop_watcher.new.self.step_record (held c.args.memory.now) (held c.stop_watcher.new.self) c.stop_watcher.ensures.frame
    c.is_fit.ensures c.args.id c.args.handle c.requires.no_timer c.stop_watcher.ensures.does

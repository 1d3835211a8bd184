use Rattle.uv_ops.proofs.Names.{sym, held}
use Rattle.uv_ops.proofs.Starting.{starts, activates}
use Rattle.uv_ops.proofs.watchers.start_inactive.Goals as goal

pub returns-in-Some-clause-does : goal.returns-in-Some-clause-does
returns-in-Some-clause-does c =
    starts c.start_watcher.new.self.step_record (held c.args.memory.now) (held c.start_watcher.new.self) c.start_watcher.ensures.frame
    c.args.id c.args.handle c.requires.found c.start_watcher.ensures.does

pub returns-in-None-clause-does : goal.returns-in-None-clause-does
returns-in-None-clause-does c =
    activates (held c.args.memory.now).image (held c.edit.new.memory).image c.args.id c.args.handle c.requires.inactive (sym c.in-None.ensures)
    (rw c.activated.ensures at c.edit.ensures.stands)

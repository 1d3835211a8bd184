use Rattle.uv_plain.proofs.Names.{arith, IsStrictlySortedBy, keys_of, due_cmp}
use Rattle.uv_plain.proofs.Starts.{started_again}
use Rattle.uv_plain.proofs.state.LoopState.start_timer.Goals as goal

pub returns-clause-ok : goal.returns-clause-ok
returns-clause-ok c =
    let sorted : IsStrictlySortedBy due_cmp (keys_of c.args.self.now.timers) = rw (← c.self.view_is) c.insert.ensures.was_ordered in
    grind (arith, started_again c.args.self.now c.args.id c.args.handle c.args.timeout c.args.repeat sorted c.requires.drawn)

use Rattle.uv_state_key.proofs.Listed.{few_async, few_check, few_idle, few_prepare}
use Rattle.uv_state_key.proofs.lists.push_walks.Goals as goal

pub push_walk-requires : goal.push_walk-requires
push_walk-requires g c = few_idle (g.M.Machine.program c.args.machine.now) (g.M.Machine.standing c.args.machine.now) c.args.holds c.requires

pub push_walk-requires-2 : goal.push_walk-requires-2
push_walk-requires-2 g c = few_prepare (g.M.Machine.program c.args.machine.now) (g.M.Machine.standing c.args.machine.now) c.args.holds c.requires

pub push_walk-requires-3 : goal.push_walk-requires-3
push_walk-requires-3 g c = few_check (g.M.Machine.program c.args.machine.now) (g.M.Machine.standing c.args.machine.now) c.args.holds c.requires

pub push_walk-requires-4 : goal.push_walk-requires-4
push_walk-requires-4 g c = few_async (g.M.Machine.program c.args.machine.now) (g.M.Machine.standing c.args.machine.now) c.args.holds c.requires

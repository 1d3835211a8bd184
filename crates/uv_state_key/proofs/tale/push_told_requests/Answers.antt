use Rattle.uv_state_key.proofs.Listed.{few_done, no_waiting}
use Rattle.uv_state_key.proofs.tale.push_told_requests.Goals as goal

pub push_members_if-requires : goal.push_members_if-requires
push_members_if-requires g c off =
    no_waiting (g.M.Machine.program c.args.machine.now) (g.M.Machine.standing c.args.machine.now) c.args.holds c.requires off

pub push_walk-requires : goal.push_walk-requires
push_walk-requires g c = few_done (g.M.Machine.program c.args.machine.now) (g.M.Machine.standing c.args.machine.now) c.args.holds c.requires

use Rattle.uv_state_key.proofs.Listed.{few_closing, no_ready}
use Rattle.uv_state_key.proofs.state.push_state.Goals as goal

pub push_members_if-requires : goal.push_members_if-requires
push_members_if-requires g c off =
    no_ready (g.M.Machine.program c.args.machine.now) (g.M.Machine.standing c.args.machine.now) _ c.in_ok-holds.ensures.holds off

pub push_walk-requires : goal.push_walk-requires
push_walk-requires g c = few_closing (g.M.Machine.program c.args.machine.now) (g.M.Machine.standing c.args.machine.now) _ c.in_ok-holds.ensures.holds

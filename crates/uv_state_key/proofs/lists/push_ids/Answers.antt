use Rattle.uv_state_key.proofs.Names.{◌∙◌, arith, after, each_turn, list_end, member_code}
use Rattle.uv_state_key.proofs.lists.push_ids.Goals as goal

pub loop-id-preserved : goal.loop-id-preserved
loop-id-preserved g c =
    let slots = (after (g.M.Machine.program c.args.machine.now) (g.M.Machine.standing c.args.machine.now)).arena.slots in
    c.in_ok-push_member.ensures
    ∙ each_turn (member_code c.args.named slots) c.args.ids.now c.loop-id.id-index _ c.push_number.new.out.items c.loop-id.out.items (omega arith)
    c.loop-id.invariant

pub returns : goal.returns
returns g c =
    let slots = (after (g.M.Machine.program c.args.machine.now) (g.M.Machine.standing c.args.machine.now)).arena.slots in
    list_end (member_code c.args.named slots) c.args.ids.now c.loop-id.id-index c.args.out.now.items c.push_number.new.out.items
    c.loop-id.out.items (omega arith) c.in_ok-push_number.ensures c.loop-id.invariant

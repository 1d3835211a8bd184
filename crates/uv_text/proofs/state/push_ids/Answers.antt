use Rattle.uv_text.proofs.Names.{◌∙◌, arith, member_text, err_from_is_err_and}
use Rattle.uv_model.specs.After.{after}
use Rattle.uv_text.proofs.Pieces.{each_turn, each_end}
use Rattle.uv_text.proofs.Cuts.{each_cut}
use Rattle.uv_text.proofs.state.push_ids.Goals as goal

pub loop-id-preserved : goal.loop-id-preserved
loop-id-preserved g c =
    let p = g.M.Machine.program c.args.machine.now in
    let member = member_text p (after p (g.M.Machine.standing c.args.machine.now)) in
    c.in_ok-push_member.ensures
    ∙ each_turn member c.args.ids.now c.loop-id.id-index _ c.args.text.now.items c.loop-id.text.items (omega arith) c.loop-id.invariant

pub returns : goal.returns
returns g c =
    let p = g.M.Machine.program c.args.machine.now in
    let member = member_text p (after p (g.M.Machine.standing c.args.machine.now)) in
    each_end member c.args.ids.now c.loop-id.id-index c.args.text.now.items c.loop-id.text.items (omega arith) c.loop-id.invariant

pub returns-in_err-push_member : goal.returns-in_err-push_member
returns-in_err-push_member g c =
    let p = g.M.Machine.program c.args.machine.now in
    let member = member_text p (after p (g.M.Machine.standing c.args.machine.now)) in
    let exit = c.from_residual in
    let q = err_from_is_err_and exit.result exit.ensures.1 in
    rw (q.1) (each_cut member c.args.ids.now c.loop-id.id-index _ c.args.text.now.items c.loop-id.text.items _ (omega arith) c.loop-id.invariant
    c.in_err-push_member.ensures)

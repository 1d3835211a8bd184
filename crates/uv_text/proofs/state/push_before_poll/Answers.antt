use Rattle.uv_text.proofs.Names.{rules, ◌≡◌, ◌++◌, append_assoc, arith, err_from_is_err_and, begins_itself, begins_more, writing, members_line}
use Rattle.uv_text.specs.State.{before_poll}
use Rattle.uv_model.specs.After.{after}
use Rattle.uv_records.specs.declared.lists.ListName.TheVariants as list
use Rattle.uv_text.proofs.Cuts.{cut}
use Rattle.uv_text.proofs.state.push_before_poll.Goals as goal

pub returns-in_err-push_members-3 : goal.returns-in_err-push_members-3
unfolding before_poll
returns-in_err-push_members-3 g c =
    let p = g.M.Machine.program c.args.machine.now in
    let s = after p (g.M.Machine.standing c.args.machine.now) in
    let exit = c.from_residual-in_err-push_members-3 in
    let q = err_from_is_err_and exit.result exit.ensures.1 in
    rw (q.1) (cut (members_line p s list.Idle ++ members_line p s list.IdleYet) c.in_err-push_members-3.ensures (grind (arith, append_assoc))
    (search (begins_itself, begins_more)))

pub returns : goal.returns
unfolding before_poll
returns g c =
    let p = g.M.Machine.program c.args.machine.now in
    let s = after p (g.M.Machine.standing c.args.machine.now) in
    let front = members_line p s list.Idle ++ members_line p s list.IdleYet ++ members_line p s list.Prepare in
    let before : c.push_members-3.new.text.items ≡ c.args.text.now.items ++ front = grind (arith, append_assoc) in
    search (rules, writing, before)

use Rattle.uv_text.proofs.Names.{rules, ◌≡◌, ◌++◌, append_assoc, arith, err_from_is_err_and, begins_itself, begins_more, writing, members_line, running_line}
use Rattle.uv_text.specs.State.{work_text}
use Rattle.uv_model.specs.After.{after}
use Rattle.uv_records.specs.declared.lists.ListName.TheVariants as list
use Rattle.uv_text.proofs.Cuts.{cut}
use Rattle.uv_text.proofs.state.push_work.Goals as goal

pub returns-in_err-push_members-2 : goal.returns-in_err-push_members-2
unfolding work_text
returns-in_err-push_members-2 g c =
    let p = g.M.Machine.program c.args.machine.now in
    let s = after p (g.M.Machine.standing c.args.machine.now) in
    let exit = c.from_residual-in_err-push_members-2 in
    let q = err_from_is_err_and exit.result exit.ensures.1 in
    rw (q.1) (cut (members_line p s list.Waiting ++ running_line p s) c.in_err-push_members-2.ensures (grind (arith, append_assoc))
    (search (begins_itself, begins_more)))

pub returns : goal.returns
unfolding work_text
returns g c =
    let p = g.M.Machine.program c.args.machine.now in
    let s = after p (g.M.Machine.standing c.args.machine.now) in
    let front = members_line p s list.Waiting ++ running_line p s ++ members_line p s list.Done in
    let before : c.push_members-2.new.text.items ≡ c.args.text.now.items ++ front = grind (arith, append_assoc) in
    search (rules, writing, before)

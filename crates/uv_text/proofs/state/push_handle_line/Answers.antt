use Rattle.uv_text.proofs.Names.{rules, append_assoc, ◌≡◌, ◌++◌, codes, arith, subst, err_from_is_err_and, Begins, begins_itself, begins_more, cut_before, writing, front_text, kind_text, record_text, id_text}
use Rattle.uv_text.proofs.Cuts.{cut}
use Rattle.uv_text.proofs.state.push_handle_line.Goals as goal

pub returns-in_err-push_handle : goal.returns-in_err-push_handle
returns-in_err-push_handle c =
    let script = c.args.script.now in
    let handle = c.args.handle.now in
    let front = codes "slot " ++ id_text c.args.id ++ codes " " ++ front_text script handle in
    let there : front ++ (kind_text handle.kind handle ++ codes "\n")
    ≡ codes "slot " ++ id_text c.args.id ++ codes " " ++ record_text script handle ++ codes "\n" =
    grind (arith, append_assoc) in
    let exit = c.from_residual in
    let p = err_from_is_err_and exit.result exit.ensures.1 in
    rw (p.1) (cut_before c.args.text.now.items front _ _ c.in_err-push_handle.ensures
    (subst (Begins front) there (begins_more front front _ (begins_itself front))))

pub returns-in_err-push_kind : goal.returns-in_err-push_kind
returns-in_err-push_kind c =
    let script = c.args.script.now in
    let handle = c.args.handle.now in
    let front = codes "slot " ++ id_text c.args.id ++ codes " " ++ front_text script handle in
    let begun = front ++ kind_text handle.kind handle in
    let there : begun ++ codes "\n" ≡ codes "slot " ++ id_text c.args.id ++ codes " " ++ record_text script handle ++ codes "\n" =
    grind (arith, append_assoc) in
    let exit = c.from_residual-in_err-push_kind in
    let p = err_from_is_err_and exit.result exit.ensures.1 in
    rw (p.1) (cut front c.in_err-push_kind.ensures c.in_ok-push_handle.ensures
    (subst (Begins begun) there (begins_more begun begun _ (begins_itself begun))))

pub returns : goal.returns
returns c =
    let front = codes "slot " ++ id_text c.args.id ++ codes " " ++ front_text c.args.script.now c.args.handle.now
    ++ kind_text c.args.handle.now.kind c.args.handle.now in
    let before : c.push_kind.new.text.items ≡ c.args.text.now.items ++ front = grind (arith, append_assoc) in
    search (rules, writing, before, append_assoc)

use Rattle.uv_engine.proofs.Names.{◌≡◌, ◌++◌, codes, arith, append_assoc, err_from_is_err_and, begins_itself, begins_less, begins_more, cut_whole}
use Rattle.std.specs.Fmt.{decimal}
use Rattle.uv_engine.proofs.verdict.push_refused.Goals as goal

pub returns-in_err-extend_from_slice-2 : goal.returns-in_err-extend_from_slice-2
returns-in_err-extend_from_slice-2 c =
    let front = codes "refused at " ++ decimal c.args.at in
    let before : c.extend_from_slice-2.new.self.items ≡ c.args.text.now.items ++ front = grind (arith, append_assoc) in
    let exit = c.from_residual-in_err-extend_from_slice-2 in
    let p = err_from_is_err_and exit.result exit.ensures.1 in
    rw (p.1) (cut_whole c.args.text.now.items front _ _ before (search (begins_itself, begins_more)))

pub returns-in_err-extend_from_slice-3 : goal.returns-in_err-extend_from_slice-3
returns-in_err-extend_from_slice-3 c =
    let front = codes "refused at " ++ decimal c.args.at ++ codes " " in
    let before : c.extend_from_slice-3.new.self.items ≡ c.args.text.now.items ++ front = grind (arith, append_assoc) in
    let exit = c.from_residual-in_err-extend_from_slice-3 in
    let p = err_from_is_err_and exit.result exit.ensures.1 in
    rw (p.1) (cut_whole c.args.text.now.items front _ _ before (search (begins_itself, begins_more)))

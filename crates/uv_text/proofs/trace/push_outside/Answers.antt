use Rattle.uv_text.proofs.Names.{rules, ◌≡◌, ◌++◌, append_assoc, codes, arith, subst, err_from_is_err_and, Begins, begins_itself, begins_more, cut_whole, writing, answer_text, outside_text, name_text}
use Rattle.uv_text.proofs.trace.push_outside.Goals as goal

pub returns : goal.returns
returns c =
    let front = codes "out " ++ c.args.word.now ++ name_text c.args.script.now.names c.args.name ++ codes " = " in
    let before : c.extend_from_slice-3.new.self.items ≡ c.args.text.now.items ++ front = grind (arith, append_assoc) in
    search (rules, writing, before, append_assoc)

pub returns-in_err-extend_from_slice-3 : goal.returns-in_err-extend_from_slice-3
returns-in_err-extend_from_slice-3 c =
    let front = codes "out " ++ c.args.word.now ++ name_text c.args.script.now.names c.args.name in
    let before : c.extend_from_slice-3.new.self.items ≡ c.args.text.now.items ++ front = grind (arith, append_assoc) in
    let exit = c.from_residual-in_err-extend_from_slice-3 in
    let p = err_from_is_err_and exit.result exit.ensures.1 in
    let there : front ++ (codes " = " ++ answer_text c.args.answer)
    ≡ codes "out " ++ c.args.word.now ++ outside_text c.args.script.now c.args.name c.args.answer = grind (arith, append_assoc) in
    rw (p.1) (cut_whole c.args.text.now.items front _ _ before (subst (Begins front) there (search (begins_itself, begins_more))))

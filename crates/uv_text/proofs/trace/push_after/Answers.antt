use Rattle.uv_text.proofs.Names.{rules, ◌≡◌, ◌++◌, append_assoc, codes, arith, writing, handle_text}
use Rattle.uv_text.proofs.trace.push_after.Goals as goal

pub returns : goal.returns
returns c =
    let front = codes "after " ++ handle_text c.args.script.now c.args.name c.args.id ++ codes " " in
    let before : c.push.new.self.items ≡ c.args.text.now.items ++ front = grind (arith, append_assoc) in
    search (rules, writing, before)

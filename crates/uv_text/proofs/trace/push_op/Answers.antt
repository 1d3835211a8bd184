use Rattle.uv_text.proofs.Names.{rules, ◌≡◌, ◌++◌, append_assoc, codes, arith, writing, site_text}
use Rattle.uv_text.proofs.trace.push_op.Goals as goal

pub returns : goal.returns
returns c =
    let front = site_text c.args.script.now c.args.site ++ codes " = " in
    let before : c.extend_from_slice.new.self.items ≡ c.args.text.now.items ++ front = grind (arith, append_assoc) in
    search (rules, writing, before)

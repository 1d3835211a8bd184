use Rattle.uv_inquiry.proofs.Names.{◌≡◌, ◌++◌, rules, append_assoc, codes, arith, writing}
use Rattle.uv_script.specs.Text.{script_text}
use Rattle.uv_inquiry.specs.Texts.{session_text}
use Rattle.uv_inquiry.proofs.session.push_session.Goals as goal

pub returns : goal.returns
unfolding session_text
returns c =
    let front = script_text c.args.script.now ++ codes "begin\n" in
    let before : c.extend_from_slice.new.self.items ≡ c.args.text.now.items ++ front = grind (arith, append_assoc) in
    search (rules, writing, before, c.names.ensures.names)

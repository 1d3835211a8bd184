use Rattle.uv_text.proofs.Names.{rules, ◌≡◌, ◌++◌, append_assoc, codes, arith, writing, numbered}
use Rattle.uv_text.proofs.state.push_run.Goals as goal

pub returns : goal.returns
returns g c =
    let front = numbered (codes " ") c.args.worker ++ codes ":" in
    let before : c.extend_from_slice.new.self.items ≡ c.args.text.now.items ++ front = grind (arith, append_assoc) in
    search (rules, writing, before, c.script.ensures, c.held.ensures, c.in-Some.is)

use Rattle.uv_text.proofs.Names.{rules, ◌≡◌, ◌++◌, append_assoc, codes, arith, writing}
use Rattle.std.specs.Fmt.{decimal}
use Rattle.uv_text.proofs.trace.push_worker.Goals as goal

pub returns : goal.returns
returns c =
    let front = codes "out " ++ c.args.word.now ++ decimal c.args.worker in
    let before : c.push_number.new.text.items ≡ c.args.text.now.items ++ front = grind (arith, append_assoc) in
    search (rules, writing, before, append_assoc)

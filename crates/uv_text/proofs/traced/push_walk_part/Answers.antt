use Rattle.uv_text.proofs.Names.{rules, ◌≡◌, ◌++◌, append_assoc, codes, arith, decimal, suc, writing}
use Rattle.uv_text.specs.Trace.{walk_part}
use Rattle.uv_text.proofs.traced.push_walk_part.Goals as goal

pub returns-in_ok-extend_from_slice-in-Some : goal.returns-in_ok-extend_from_slice-in-Some
unfolding walk_part
returns-in_ok-extend_from_slice-in-Some g c =
    let front = decimal (suc c.args.number) ++ codes " " in
    let before : c.extend_from_slice.new.self.items ≡ c.args.text.now.items ++ front = grind (arith, append_assoc) in
    search (rules, writing, before, append_assoc)

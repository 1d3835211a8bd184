use Rattle.uv_inquiry.proofs.Names.{◌≡◌, ◌++◌, append_assoc, codes, arith, refl, decimal, last_behind, bounds_text}
use Rattle.uv_inquiry.specs.Texts.{late_text}
use Rattle.uv_inquiry.proofs.answer.push_late.Goals as goal

pub returns : goal.returns
unfolding late_text
returns c =
    let i = c.args.inquiry.now in
    let front = codes "latest " ++ decimal c.args.late ++ codes " ms" in
    let before : c.extend_from_slice-2.new.self.items ≡ c.args.text.now.items ++ front = grind (arith, append_assoc) in
    last_behind c.push_every_bound.result c.args.text.now.items front
    (bounds_text i.script.names i.asking.differ i.asking.clock i.asking.most.items) _ _ _ (rw c.names.ensures.names at c.push_every_bound.ensures)
    before refl

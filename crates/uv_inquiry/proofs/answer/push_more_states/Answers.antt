use Rattle.uv_inquiry.proofs.Names.{◌≡◌, ◌++◌, append_assoc, codes, arith, refl, last_behind, steps_text}
use Rattle.uv_inquiry.specs.Texts.{unsettled_text, more_text}
use Rattle.uv_inquiry.proofs.answer.push_more_states.Goals as goal

pub returns : goal.returns
unfolding more_text
returns c =
    let front = codes ", in " ++ steps_text c.args.steps ++ codes ": " in
    let before : c.extend_from_slice-2.new.self.items ≡ c.args.text.now.items ++ front = grind (arith, append_assoc) in
    last_behind c.push_unsettled.result c.args.text.now.items front (unsettled_text c.args.states) _ _ _ c.push_unsettled.ensures before refl

use Rattle.uv_script.proofs.ProofNames.{arith, refl, ◌≡◌, ◌++◌, append_assoc, codes, front_text, name_text, call_text, op_text}
use Rattle.uv_script.proofs.Writing.{last_behind}
use Rattle.uv_script.proofs.op.CallbackLine.push_line.Goals as goal

pub returns : goal.returns
returns c =
    let old = c.args.text.now.items in
    let front = front_text c.args.kind ++ name_text c.args.names.now c.args.name ++ codes " " in
    let line = call_text c.args.self.call (op_text c.args.names.now c.args.self.op) in
    let before : c.extend_from_slice.new.self.items ≡ old ++ front = grind (arith, append_assoc) in
    last_behind c.push_op.result old front line (front ++ line) c.extend_from_slice.new.self.items c.push_op.new.text.items c.push_op.ensures before
    refl

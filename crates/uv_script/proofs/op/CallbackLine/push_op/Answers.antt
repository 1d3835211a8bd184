use Rattle.uv_script.proofs.ProofNames.{Option, ℕ, arith, refl, sym, subst, ◌≡◌, ◌++◌, append_assoc, codes, decimal, call_text, op_text, Writes}
use Rattle.uv_script.proofs.Writing.{last_behind}
use Rattle.uv_script.proofs.op.CallbackLine.push_op.Goals as goal

pub returns : goal.returns
returns c =
    let old = c.args.text.now.items in
    let new = c.push_text-2.new.text.items in
    let op = op_text c.args.names.now c.args.self.op in
    let front = codes "@" ++ decimal c.in-Some.call ++ codes " " in
    let before : c.extend_from_slice-2.new.self.items ≡ old ++ front = grind (arith, append_assoc) in
    subst (λ (call : Option ℕ). Writes c.push_text-2.result old (call_text call op) new) (sym c.in-Some.is)
    (last_behind c.push_text-2.result old front op (front ++ op) c.extend_from_slice-2.new.self.items new c.push_text-2.ensures before refl)

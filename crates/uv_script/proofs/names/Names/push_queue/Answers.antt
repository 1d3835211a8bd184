use Rattle.uv_script.proofs.ProofNames.{List, ℕ, refl, arith, subst, ◌≡◌, ◌++◌, codes, decimal, append_assoc, name_text, task_text, Writes}
use Rattle.uv_script.proofs.Writing.{last_behind}
use Rattle.uv_script.proofs.names.Names.push_queue.Goals as goal

pub returns : goal.returns
returns c =
    let old = c.args.text.now.items in
    let front = codes "queue " ++ name_text c.args.self.now c.args.name ++ codes " " ++ decimal c.args.task.rounds in
    let before : c.push_number.new.text.items ≡ old ++ front = grind (arith, append_assoc) in
    subst (λ (t : List ℕ). Writes c.push_task_text.result old (front ++ task_text t) c.push_task_text.new.text.items) c.text.ensures.value
    (last_behind c.push_task_text.result old front (task_text c.text.result.now) (front ++ task_text c.text.result.now)
    c.push_number.new.text.items c.push_task_text.new.text.items c.push_task_text.ensures before refl)

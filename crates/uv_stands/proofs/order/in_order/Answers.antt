use Rattle.uv_stands.proofs.ProofNames.{◌∙◌, subst, rules, IsPermutation, answers_always, Entry}
use Rattle.uv_stands.proofs.Ordered.{sorted_in_order}
use Rattle.uv_stands.proofs.order.in_order.Goals as goal

pub returns : goal.returns
returns c =
    sorted_in_order c.args.heap.now.array c.sort_unstable_by_key.new.self.items
    (subst (λ xs. IsPermutation xs c.sort_unstable_by_key.new.self.items) (c.in_ok-entries.ensures.items ∙ c.entries.ensures.array)
    c.sort_unstable_by_key.ensures.permutation)
    (c.sort_unstable_by_key.ensures.sorted (λ (e : Entry). e.due) (answers_always _ _ _ (λ f a r g h. search rules)))

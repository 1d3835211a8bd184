use Rattle.uv_stands.proofs.ProofNames.{LONGEST_POLL, ℕ, min, Some, None, sym, ap, ◌∙◌, image_of}
use Rattle.uv_stands.proofs.First.{first_timer}
use Rattle.uv_stands.proofs.queries.until_first.Goals as goal

pub returns-in-None-clause-timeout : goal.returns-in-None-clause-timeout
returns-in-None-clause-timeout c s h r = first_timer (image_of c.args.memory.now) s None h r
    (rw c.heap.ensures at c.in-None.ensures.root) (rw c.heap.ensures at c.in-None.ensures.first)

pub returns-in-Some-clause-timeout : goal.returns-in-Some-clause-timeout
returns-in-Some-clause-timeout c s h r =
    first_timer (image_of c.args.memory.now) s (Some c.in-Some.entry) h r (rw c.heap.ensures at c.in-Some.ensures.root)
    (rw c.heap.ensures at c.in-Some.ensures.first)
    ∙ ap (λ n. Some n) (sym (c.min.ensures ∙ ap (λ (n : ℕ). min n LONGEST_POLL) (rw c.times.ensures at c.saturating_sub-left.ensures)))

use Rattle.uv_run.proofs.Names.{◌∙◌, ◌+◌, ℕ, List, ap, sym, subst, take, count_by, Loop, is_send, AreCounts, Counts}
use Rattle.uv_run.proofs.Counting.{sends_more, no_sends_more, not_sent}
use Rattle.uv_run.proofs.session.sends_of.Goals as goal
use Rattle.uv_run.proofs.session.sends_of.Goals.{in-Send, in_default}

pub steps-preserved : goal.steps-preserved
steps-preserved c = elim c.match-steps-n.branch [
  | in-Send w ↦ subst (λ (counts : List ℕ). AreCounts c.args.names (λ v. count_by (is_send v) (take (c.steps.n + 1) c.args.steps.now)) counts)
      (sym (ap (λ (x : Counts). x.counts.items) w.counts-is ∙ w.note.ensures))
      (sends_more c.args.names c.args.steps.now c.steps.n Loop w.in-Send.name _ c.steps-test.true w.in-Send.is c.steps.invariant)
  | in_default w ↦ subst (λ (counts : List ℕ). AreCounts c.args.names (λ v. count_by (is_send v) (take (c.steps.n + 1) c.args.steps.now)) counts)
      (sym (ap (λ (x : Counts). x.counts.items) w.counts-is))
      (no_sends_more c.args.names c.args.steps.now c.steps.n Loop _ c.steps-test.true (not_sent _ w.in_default.not-Send) c.steps.invariant)
]

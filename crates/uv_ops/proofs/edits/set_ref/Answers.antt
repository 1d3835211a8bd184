use Rattle.uv_ops.proofs.Names.{sym, ap, ◌∙◌, HandleRecord, with_handle, set_referenced, succeeds}
use Rattle.uv_ops.proofs.edits.set_ref.Goals as goal

pub returns-clause-does : goal.returns-clause-does
returns-clause-does c s h reached = (
  with_handle s c.in_ok-id.id c.referenced_as.result,
  c.in_ok-id.ensures.done s h (set_referenced s c.args.referenced)
      ∙ ap (λ (r : HandleRecord). succeeds (with_handle s c.in_ok-id.id r)) (sym c.referenced_as.ensures),
  c.edit.ensures.stands s h,
)

use Rattle.uv_ops.proofs.Names.{sym, ap, ◌∙◌, HandleRecord, with_handle, set_repeat, succeeds}
use Rattle.uv_ops.proofs.edits.set_repeat.Goals as goal

pub returns-clause-performs : goal.returns-clause-performs
returns-clause-performs c s h reached = (
  with_handle s c.in_ok-id.id c.repeating.result,
  c.in_ok-id.ensures.done s h (set_repeat s c.args.repeat)
      ∙ ap (λ (r : HandleRecord). succeeds (with_handle s c.in_ok-id.id r)) (sym c.repeating.ensures),
  c.edit.ensures.stands s h,
)

use Rattle.uv_inquiry.proofs.Ops.{has_idle, has_start, start_wanted, must}
use Rattle.uv_inquiry.proofs.repeats.idles_by.Goals as goal

pub returns-then-has_op : goal.returns-then-has_op
returns-then-has_op c = (
  λ t. (has_idle (c.has_op.ensures.yes c.if-has_op.true), has_start (c.has_op-then-has_op.ensures.yes t)),
  λ h. must (λ f. c.has_op-then-has_op.ensures.no f (start_wanted h.1)),
)

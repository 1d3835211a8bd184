use Rattle.uv_inquiry.proofs.repeats.may_never_end.Goals as goal

pub returns-then-is_unbounded : goal.returns-then-is_unbounded
returns-then-is_unbounded c = (
  λ t. record { unbounded = c.is_unbounded.ensures.0 c.if-is_unbounded.true; goes_on = c.goes_on.ensures.0 t },
  λ h. c.goes_on.ensures.1 h.goes_on,
)

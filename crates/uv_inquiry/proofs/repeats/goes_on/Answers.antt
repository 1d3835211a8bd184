use Rattle.uv_inquiry.proofs.Names.{◌≡◌, false, None, asked_in, GoesOn, repeats, idles}
use Rattle.uv_inquiry.proofs.Ops.{repeat_wanted, not_repeated, must}
use Rattle.uv_inquiry.proofs.repeats.goes_on.Goals as goal

pub returns-then-has_op : goal.returns-then-has_op
returns-then-has_op c =
    let all : c.args.asking.now.differ ≡ None = search in
    (λ _. repeats (repeat_wanted (c.has_op.ensures.yes c.if-has_op.true)) all, λ _. c.if-has_op.true)

pub returns-else-has_op : goal.returns-else-has_op
returns-else-has_op c = (λ t. idles (c.idles.ensures.yes t), λ h. must (λ f. by f h))
  where
    by : c.idles.result ≡ false → GoesOn c.args.script.now (asked_in c.args.asking.now) → ⊥
    by f (repeats r all) = not_repeated (c.has_op.ensures.no c.if-has_op.false) r
    by f (idles h) = c.idles.ensures.no f h

use Rattle.uv_inquiry.proofs.Names.{ℕ, Callback, NoneAt}
use Rattle.uv_ids.specs.declared.seen.Site.TheVariants as site
use Rattle.uv_inquiry.proofs.Ops.{each_kind}
use Rattle.uv_inquiry.proofs.repeats.in_callbacks_of.Goals as goal

pub returns-clause-no : goal.returns-clause-no
returns-clause-no c = λ e.
    each_kind (λ (k : Callback). (line : ℕ) → NoneAt c.args.script.now c.args.wanted (site.In k c.args.name line))
    (c.in_callback.ensures.no c.if-in_callback.false) (c.in_callback-2.ensures.no c.if-in_callback-2.false) (c.in_callback-3.ensures.no e)

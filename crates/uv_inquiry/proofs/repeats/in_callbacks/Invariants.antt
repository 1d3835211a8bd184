use Rattle.uv_inquiry.proofs.Names.{ℕ, ◌<◌, Var, Callback, NoneAt}
use Rattle.uv_ids.specs.declared.seen.Site.TheVariants as site
use Rattle.uv_inquiry.proofs.repeats.in_callbacks.Given as goal

-- none of the names before has such a line
abbrev pub invariant-loop-name : goal.invariant-loop-name
invariant-loop-name l = (kind : Callback) (v : Var) (line : ℕ) → v.0 < l.name → NoneAt l.script l.wanted (site.In kind v line)

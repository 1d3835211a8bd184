use Rattle.uv_inquiry.proofs.Names.{ℕ, ◌<◌, NoneAt}
use Rattle.uv_ids.specs.declared.seen.Site.TheVariants as site
use Rattle.uv_inquiry.proofs.repeats.in_main.Given as goal

-- none of the lines before is one
abbrev pub invariant-loop-line : goal.invariant-loop-line
invariant-loop-line l = (k : ℕ) → k < l.line → NoneAt l.script l.wanted (site.Main k)

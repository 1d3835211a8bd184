use Rattle.uv_inquiry.proofs.Names.{◌≡◌, ◌+◌, ◌-◌, ◌<◌, ◌^◌, ◌++◌, length}
use Rattle.uv_inquiry.proofs.input.read_all.Given as goal

-- what was read, with what is left, is all
abbrev pub invariant-reads : goal.invariant-reads
invariant-reads g l = record {
  whole : g.R.Source.Tells → l.input.items ++ g.R.Source.remaining l.reader ≡ g.R.Source.remaining l.initial.reader;
  budget : l.budget + length l.input.items ≡ 1073741824;
  given : g.R.Source.given l.initial.reader + 1073741824 < 2 ^ 64 - 1 →
      g.R.Source.given l.reader + l.budget ≡ g.R.Source.given l.initial.reader + 1073741824;
  none_failed : g.R.Source.failures l.reader ≡ g.R.Source.failures l.initial.reader;
}

abbrev pub decreases-reads : goal.decreases-reads
decreases-reads g l = l.budget

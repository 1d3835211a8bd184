use Rattle.uv_engine.proofs.Names.{◌≡◌, ◌≤◌, [], left, size, turns_left, EndIsSeen, SpendsBudget, SpendsGiven}
use Rattle.uv_engine.proofs.Buffers.{IsPassed}
use Rattle.uv_engine.proofs.input.Input.skip_line.Given as goal

-- what was passed over has no line feed
abbrev pub invariant-reads : goal.invariant-reads
invariant-reads g l = record {
  passed : g.R.Source.Tells → IsPassed (left l.initial.self (g.R.Source.remaining l.initial.reader)) (left l.self (g.R.Source.remaining l.reader));
  part : l.self.part ≡ [];
  end : g.R.Source.Tells → EndIsSeen l.self (g.R.Source.remaining l.reader);
  size_is : size l.self ≤ size l.initial.self;
  budget : g.R.Source.Tells → SpendsBudget l.initial.self (g.R.Source.remaining l.initial.reader) l.self (g.R.Source.remaining l.reader);
  given : SpendsGiven l.initial.self (g.R.Source.given l.initial.reader) l.self (g.R.Source.given l.reader);
  none_failed : g.R.Source.failures l.reader ≡ g.R.Source.failures l.initial.reader;
}

abbrev pub decreases-reads : goal.decreases-reads
decreases-reads g l = turns_left l.self

use Rattle.uv_engine.proofs.Names.{◌≡◌, true, left, size, turns_left, EndIsSeen, SpendsBudget, SpendsGiven}
use Rattle.uv_engine.proofs.input.Input.next_line.Given as goal

-- what is left stays
abbrev pub invariant-reads : goal.invariant-reads
invariant-reads g l = record {
  left_is : g.R.Source.Tells → left l.self (g.R.Source.remaining l.reader) ≡ left l.initial.self (g.R.Source.remaining l.initial.reader);
  end : g.R.Source.Tells → EndIsSeen l.self (g.R.Source.remaining l.reader);
  size_is : size l.self ≡ size l.initial.self;
  budget : g.R.Source.Tells → SpendsBudget l.initial.self (g.R.Source.remaining l.initial.reader) l.self (g.R.Source.remaining l.reader);
  given : SpendsGiven l.initial.self (g.R.Source.given l.initial.reader) l.self (g.R.Source.given l.reader);
  ended : l.initial.self.ended ≡ true → l.self.ended ≡ true;
  none_failed : g.R.Source.failures l.reader ≡ g.R.Source.failures l.initial.reader;
}

abbrev pub decreases-reads : goal.decreases-reads
decreases-reads g l = turns_left l.self

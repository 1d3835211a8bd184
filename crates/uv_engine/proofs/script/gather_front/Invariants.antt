use Rattle.uv_engine.proofs.Names.{◌≡◌, ◌≤◌, left, size, EndIsSeen, SpendsBudget, SpendsGiven}
use Rattle.uv_engine.proofs.LongLines.{AreWhole}
use Rattle.uv_engine.proofs.Near.{GoesOnNear}
use Rattle.uv_engine.proofs.Starting.{CanBegin}
use Rattle.uv_engine.proofs.script.gather_front.Given as goal

-- the lines so far, none of which is `begin`, are the front of the script
abbrev pub invariant-lines : goal.invariant-lines
invariant-lines g l = record {
  end : g.R.Source.Tells → EndIsSeen l.input (g.R.Source.remaining l.reader);
  text : g.R.Source.Tells → CanBegin (left l.initial.input (g.R.Source.remaining l.initial.reader)) l.text.items
      (left l.input (g.R.Source.remaining l.reader));
  whole : g.R.Source.Tells → AreWhole l.text.items (left l.input (g.R.Source.remaining l.reader));
  near : g.R.Source.Tells → GoesOnNear (left l.initial.input (g.R.Source.remaining l.initial.reader)) (left l.input (g.R.Source.remaining l.reader));
  budget : g.R.Source.Tells → SpendsBudget l.initial.input (g.R.Source.remaining l.initial.reader) l.input (g.R.Source.remaining l.reader);
  given : SpendsGiven l.initial.input (g.R.Source.given l.initial.reader) l.input (g.R.Source.given l.reader);
  size_is : size l.input ≤ size l.initial.input;
  none_failed : g.R.Source.failures l.reader ≡ g.R.Source.failures l.initial.reader;
}

abbrev pub decreases-lines : goal.decreases-lines
decreases-lines g l = size l.input

use Rattle.uv_engine.proofs.Names.{◌≡◌, ◌+◌, ◌≤◌, List, length, Event, left, size, EndIsSeen, SpendsBudget, SpendsGiven}
use Rattle.uv_engine.proofs.Replays.{CallsSo}
use Rattle.uv_engine.proofs.replaying.read_calls.Given as goal

-- the callbacks of the lines so far were compared
abbrev pub invariant-lines : goal.invariant-lines
invariant-lines g l = record {
  end : g.R.Source.Tells → EndIsSeen l.input.input (g.R.Source.remaining l.reader);
  reads : g.R.Source.Tells → (es : List Event) → CallsSo (g.M.Machine.program l.initial.rerun.machine) es
      (g.M.Machine.standing l.initial.rerun.machine) l.initial.rerun.halted
      l.initial.input.taken (left l.initial.input.input (g.R.Source.remaining l.initial.reader))
      l.input.taken (left l.input.input (g.R.Source.remaining l.reader)) l.rerun.looked l.rerun.count l.rerun.parted;
  machine : l.rerun.machine ≡ l.initial.rerun.machine;
  halted : l.rerun.halted ≡ l.initial.rerun.halted;
  looked : l.rerun.looked ≤ length (g.M.Machine.standing l.initial.rerun.machine);
  count : l.rerun.count ≤ l.input.taken;
  few : l.input.taken + size l.input.input ≤ l.initial.input.taken + size l.initial.input.input;
  budget : g.R.Source.Tells → SpendsBudget l.initial.input.input (g.R.Source.remaining l.initial.reader)
      l.input.input (g.R.Source.remaining l.reader);
  given : SpendsGiven l.initial.input.input (g.R.Source.given l.initial.reader) l.input.input (g.R.Source.given l.reader);
  none_failed : g.R.Source.failures l.reader ≡ g.R.Source.failures l.initial.reader;
}

abbrev pub decreases-lines : goal.decreases-lines
decreases-lines g l = size l.input.input

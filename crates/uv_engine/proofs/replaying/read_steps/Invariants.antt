use Rattle.uv_engine.proofs.Names.{◌≡◌, ◌+◌, ◌≤◌, length, STEPS, left, size, EndIsSeen, SpendsBudget, SpendsGiven}
use Rattle.uv_engine.proofs.Replays.{StepsSo}
use Rattle.uv_engine.proofs.replaying.read_steps.Given as goal

-- the steps of the lines so far were run
abbrev pub invariant-lines : goal.invariant-lines
invariant-lines g l = record {
  end : g.R.Source.Tells → EndIsSeen l.input.input (g.R.Source.remaining l.reader);
  reads : g.R.Source.Tells → StepsSo (g.M.Machine.program l.initial.rerun.machine)
      l.initial.input.taken (left l.initial.input.input (g.R.Source.remaining l.initial.reader))
      l.input.taken (left l.input.input (g.R.Source.remaining l.reader)) (g.M.Machine.standing l.rerun.machine) l.rerun.halted;
  few_steps : length (g.M.Machine.standing l.rerun.machine) ≤ STEPS;
  program : g.M.Machine.program l.rerun.machine ≡ g.M.Machine.program l.initial.rerun.machine;
  looked : l.rerun.looked ≡ l.initial.rerun.looked;
  count : l.rerun.count ≡ l.initial.rerun.count;
  parted : l.rerun.parted ≡ l.initial.rerun.parted;
  few : l.input.taken + size l.input.input ≤ l.initial.input.taken + size l.initial.input.input;
  budget : g.R.Source.Tells → SpendsBudget l.initial.input.input (g.R.Source.remaining l.initial.reader)
      l.input.input (g.R.Source.remaining l.reader);
  given : SpendsGiven l.initial.input.input (g.R.Source.given l.initial.reader) l.input.input (g.R.Source.given l.reader);
  none_failed : g.R.Source.failures l.reader ≡ g.R.Source.failures l.initial.reader;
}

abbrev pub decreases-lines : goal.decreases-lines
decreases-lines g l = size l.input.input

use Rattle.uv_engine.proofs.Names.{◌≡◌, ◌≤◌, ◌-◌, ◌++◌, length, take}
use Rattle.uv_engine.proofs.sink.write_text.Given as goal

abbrev pub invariant-loop-at : goal.invariant-loop-at
invariant-loop-at g l = record {
  within : l.at ≤ length l.text;
  so_far : g.W.Sink.Tells → g.W.Sink.written l.writer ≡ g.W.Sink.written l.initial.writer ++ take l.at l.text;
  none_failed : g.W.Sink.failures l.writer ≡ g.W.Sink.failures l.initial.writer;
}

abbrev pub decreases-loop-at : goal.decreases-loop-at
decreases-loop-at g l = length l.text - l.at

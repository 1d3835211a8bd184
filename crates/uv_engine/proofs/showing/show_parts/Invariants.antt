use Rattle.uv_engine.proofs.Names.{◌≡◌, ◌-◌, ◌<◌, ◌++◌, length, parts_from, Gathered}
use Rattle.uv_text.specs.Parts.{in_parts}
use Rattle.uv_engine.proofs.showing.show_parts.Given as goal

-- what is left to gather are the parts that are left
abbrev pub invariant-loop-number : goal.invariant-loop-number
invariant-loop-number g l = record {
  text : g.W.Sink.Tells → Gathered (g.W.Sink.written l.initial.writer)
      ((g.W.Sink.written l.initial.writer ++ l.initial.text.items) ++ in_parts (g.P.Parts.part l.parts) (g.P.Parts.parts l.parts))
      (g.W.Sink.written l.writer) l.text.items (parts_from (g.P.Parts.part l.parts) l.number (g.P.Parts.parts l.parts - l.number));
  few : length l.initial.text.items < 8192 → length l.text.items < 8192;
  none_failed : g.W.Sink.failures l.writer ≡ g.W.Sink.failures l.initial.writer;
}

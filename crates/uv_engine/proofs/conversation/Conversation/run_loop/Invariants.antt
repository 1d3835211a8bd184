use Rattle.uv_engine.proofs.Names.{◌≡◌, ◌-◌, ◌++◌, Gathered}
use Rattle.uv_engine.specs.Reply.{loop_text, loop_after}
use Rattle.uv_engine.proofs.conversation.Conversation.run_loop.Given as goal

-- what is left to gather is the text of the steps that are left
abbrev pub invariant-loop : goal.invariant-loop
invariant-loop g l = record {
  text : g.W.Sink.Tells → Gathered (g.W.Sink.written l.initial.writer)
      ((g.W.Sink.written l.initial.writer ++ l.initial.self.text.items) ++ loop_text l.n l.initial.self.session)
      (g.W.Sink.written l.writer) l.self.text.items (loop_text (l.n - l.counter) l.self.session);
  session : loop_after (l.n - l.counter) l.self.session ≡ loop_after l.n l.initial.self.session;
  none_failed : g.W.Sink.failures l.writer ≡ g.W.Sink.failures l.initial.writer;
}

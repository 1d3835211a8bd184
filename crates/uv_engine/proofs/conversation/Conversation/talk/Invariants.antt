use Rattle.uv_engine.proofs.Names.{◌≡◌, lines_of, left, size, EndIsSeen, SpendsBudget, SpendsGiven}
use Rattle.uv_engine.proofs.Talking.{CanTalkOn}
use Rattle.uv_engine.proofs.conversation.Conversation.talk.Given as goal

-- any answers to the lines that are left make answers to all
abbrev pub invariant-lines : goal.invariant-lines
invariant-lines g l = record {
  end : g.R.Source.Tells → EndIsSeen l.input (g.R.Source.remaining l.reader);
  text : g.R.Source.Tells → g.W.Sink.Tells → CanTalkOn
      (lines_of (left l.initial.input (g.R.Source.remaining l.initial.reader))) l.initial.self.session
      (lines_of (left l.input (g.R.Source.remaining l.reader))) l.self.session
      (g.W.Sink.written l.initial.writer) (g.W.Sink.written l.writer) l.self.text.items;
  budget : g.R.Source.Tells → SpendsBudget l.initial.input (g.R.Source.remaining l.initial.reader) l.input (g.R.Source.remaining l.reader);
  given : SpendsGiven l.initial.input (g.R.Source.given l.initial.reader) l.input (g.R.Source.given l.reader);
  none_read_failed : g.R.Source.failures l.reader ≡ g.R.Source.failures l.initial.reader;
  none_write_failed : g.W.Sink.failures l.writer ≡ g.W.Sink.failures l.initial.writer;
}

abbrev pub decreases-lines : goal.decreases-lines
decreases-lines g l = size l.input

use Rattle.uv_engine.proofs.LongLines.{asks_long}
use Rattle.uv_engine.proofs.conversation.next_asked.Goals as goal

pub returns-in_ok-skip_line-in-Long-clause-line : goal.returns-in_ok-skip_line-in-Long-clause-line
returns-in_ok-skip_line-in-Long-clause-line g c = λ reads.
    let long = rw c.in-Long.is at (c.in_ok-line.ensures.line reads) in
    asks_long c.args.names.now _ _ _ _ long (c.in_ok-skip_line-in-Long.ensures.line reads)

use Rattle.std.proofs.Common.{Ok, Err, refl, ◌∙◌}
use Rattle.uv_cli.proofs.Ending.{of_status, replayed_well, replayed_fault, replayed_status}
use Rattle.uv_cli.proofs.program.rerun.Goals as goal

pub returns-in-Ok-clause-text : goal.returns-in-Ok-clause-text
returns-in-Ok-clause-text g c = λ reads tells. replayed_well _ _ _ tt (c.in-Ok.ensures.text reads tells)

pub returns-in-Err-clause-text : goal.returns-in-Err-clause-text
returns-in-Err-clause-text g c = λ reads tells. rw c.fail.ensures (replayed_fault _ _ _ c.in-Err.fault (c.in-Err.ensures.text reads tells))

pub returns-in-Err-clause-status : goal.returns-in-Err-clause-status
returns-in-Err-clause-status g c = rw c.fail.ensures (replayed_status c.in-Err.fault c.in-Err.ensures.err)

pub returns-in-Err-clause-within : goal.returns-in-Err-clause-within
returns-in-Err-clause-within g c = λ n. of_status c.in-Err.fault _ (λ e. n (c.fail.ensures ∙ e)) c.in-Err.ensures.within

pub returns-in-Ok-clause-ends : goal.returns-in-Ok-clause-ends
returns-in-Ok-clause-ends g c =
    record { came_to = Ok tt; is = refl; fault = tt; reader = c.in-Ok.ensures.reader; writer = c.in-Ok.ensures.writer }

pub returns-in-Err-clause-ends : goal.returns-in-Err-clause-ends
returns-in-Err-clause-ends g c =
    record {
      came_to = Err c.in-Err.fault;
      is = c.fail.ensures;
      fault = c.in-Err.ensures.err;
      reader = c.in-Err.ensures.reader;
      writer = c.in-Err.ensures.writer;
    }

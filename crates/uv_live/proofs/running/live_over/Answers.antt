use Rattle.uv_live.proofs.running.live_over.Goals as goal

pub invariant_of-shared : goal.invariant_of-shared
invariant_of-shared g c = record {
  named = rw (c.as_slice.ensures.value, c.in_ok-board.ensures.names, c.name_count-names.ensures) c.in_ok-lines.ensures.named;
}

pub returns-clause-err : goal.returns-clause-err
returns-clause-err g c = c.conclude-2.ensures.faults _

use Rattle.uv_live.proofs.running.copied_lines.Goals as goal

pub returns-clause-named : goal.returns-clause-named
returns-clause-named g c = rw c.in_ok-from_slice.ensures.items c.thread_lines.ensures.names

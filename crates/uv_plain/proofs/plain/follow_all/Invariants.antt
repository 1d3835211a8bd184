use Rattle.uv_plain.proofs.Names.{◌≡◌, take, after}
use Rattle.uv_plain.proofs.plain.follow_all.Given as goal

-- the state is that after the steps so far
abbrev pub invariant-loop-event : goal.invariant-loop-event
invariant-loop-event l = l.state ≡ after l.script (take l.event-index l.steps)

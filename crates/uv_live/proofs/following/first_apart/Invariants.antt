use Rattle.uv_live.proofs.Names.{◌≡◌, ◌≤◌, take, length}
use Rattle.uv_live.proofs.following.first_apart.Given as goal

-- the events so far are the log's
abbrev pub invariant-places : goal.invariant-places
invariant-places l = (take l.n l.events ≡ take l.n l.log) × (l.n ≤ length l.log)

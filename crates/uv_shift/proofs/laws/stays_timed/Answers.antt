use Rattle.uv_shift.proofs.Reached.{after_timed}
use Rattle.uv_shift.proofs.Timed.{timed_earlier, earliest_timed}
use Rattle.uv_shift.proofs.laws.stays_timed.Goals as goal

pub returns : goal.returns
returns c = record { reached = after_timed; earlier = timed_earlier; earliest = earliest_timed }

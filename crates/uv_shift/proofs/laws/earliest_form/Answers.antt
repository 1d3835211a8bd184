use Rattle.uv_shift.proofs.Base.{earliest_later, earliest_same}
use Rattle.uv_shift.proofs.laws.earliest_form.Goals as goal

pub returns : goal.returns
returns c = record { moved = earliest_later; same = earliest_same }

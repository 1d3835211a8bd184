-- The lines of a trace, with the states around them.
use Rattle.uv_ids.specs.declared.seen.Seen.{Seen}
use Rattle.uv_model.specs.State.{State}

-- a line of the trace, with the states before and after the step that appended it
pub record Line : Type 0 where
  pub before : State
  pub seen : Seen
  pub after : State

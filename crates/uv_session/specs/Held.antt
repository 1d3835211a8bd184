-- What a session's fields keep.
use Rattle.std.specs.Prelude.{◌≡◌, ℕ, ◌≤◌, List, length, take}
use Rattle.uv_ids.specs.declared.event.Event.{Event}
use Rattle.uv_script.specs.Program.{Program}
use Rattle.uv_model.specs.After.{Accepts, STEPS}

-- the machine has taken the first of the events, and each of them is accepted where it stands
pub record IsHeld (p : Program) (steps events : List Event) (standing limit : ℕ) : Type 0 where
  pub steps_are : steps ≡ take standing events
  pub within : standing ≤ length events
  pub few : length events ≤ limit
  pub accepted : Accepts p events
  pub limit_is : limit ≤ STEPS

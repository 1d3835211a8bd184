-- A machine, as its script and its standing steps.
use Rattle.std.specs.Prelude.{◌≡◌, ◌≤◌, List, length, Option}
use Rattle.uv_ids.specs.declared.event.Event.{Event}
use Rattle.uv_ids.specs.declared.seen.Seen.{Seen}
use Rattle.uv_script.specs.Program.{Program}
use Rattle.uv_model.specs.State.{State}
use Rattle.uv_model.specs.After.{after, seen_by, STEPS}

pub record Trail : Type 0 where
  pub program : Program
  pub standing : List Event

-- what the plain loop keeps: its state and its lines are those after its steps
pub record IsAfter (p : Program) (steps : List Event) (seen : List (Option Seen)) (state : State) : Type 0 where
  pub few : length steps ≤ STEPS
  pub seen_is : seen ≡ seen_by p steps
  pub state_is : state ≡ after p steps

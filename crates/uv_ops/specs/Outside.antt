-- What is done by a name from outside as well, from each state that the memory stands for: its answer, and the state that the other memory stands
-- for.
use Rattle.std.specs.Prelude.{◌≡◌}
use Rattle.uv_ids.specs.declared.id.Var.{Var}
use Rattle.uv_ids.specs.declared.code.Code.{Code}
use Rattle.uv_ids.specs.declared.code.Answer.{Answer}
use Rattle.uv_model.specs.declared.place.Place.{Place}
use Rattle.uv_model.specs.State.{State, live_handle, live_request}
use Rattle.uv_model.specs.Ops.{send, cancel}
use Rattle.uv_memory.specs.Image.{Image}
use Rattle.uv_stands.specs.Stands.{StandsFor}

-- a send to the async handle of a name
abbrev pub Sends : Var → Image Place → Image Place → Code → Type 0
Sends v i j code =
    (s : State) → StandsFor i s → (t : State) × (send s (live_handle s v) ≡ record { state = t; code = code }) × StandsFor j t

-- a cancel of the request of a name
abbrev pub Cancels : Var → Image Place → Image Place → Answer → Type 0
Cancels v i j answer =
    (s : State) → StandsFor i s → (t : State) × (cancel s (live_request s v) ≡ record { state = t; answer = answer }) × StandsFor j t

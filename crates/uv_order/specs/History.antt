-- The lines that a list of events appends, with the states around them.
use Rattle.std.specs.Prelude.{List, [], ◌∷◌, ◌++◌, Some, None}
use Rattle.uv_ids.specs.declared.event.Event.{Event}
use Rattle.uv_script.specs.Program.{Program}
use Rattle.uv_model.specs.State.{State, fresh}
use Rattle.uv_model.specs.Next.{Next, Moves, Refuses, next}
use Rattle.uv_model.specs.After.{state_of}
use Rattle.uv_order.specs.Line.{Line}

-- the line of a step, if it appends one
abbrev pub line_of_step : State → Next → List Line
line_of_step s (Moves t (Some seen)) = record { before = s; seen = seen; after = t } ∷ []
line_of_step s (Moves t None) = []
line_of_step s (Refuses why) = []

-- the lines that these events append, from a state
abbrev pub history_from : Program → State → List Event → List Line
history_from p s [] = []
history_from p s (e ∷ es) = line_of_step s (next p s e) ++ history_from p (state_of s (next p s e)) es

-- the lines that these events append, from the beginning
unfoldable pub history : Program → List Event → List Line
history p es = history_from p (fresh p) es

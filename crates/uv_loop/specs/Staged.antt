-- Where the line of the loop's next step fits in two words.
use Rattle.std.specs.Prelude.{Bool, true, false, Option, Some, None}
use Rattle.uv_model.specs.declared.place.Body.{Body}
use Rattle.uv_model.specs.declared.place.Place.{Place}
use Rattle.uv_model.specs.declared.place.Place.TheVariants.{Main, Running}
use Rattle.uv_model.specs.declared.place.Stage.{Stage}
use Rattle.uv_model.specs.declared.place.Stage.TheVariants.{Done}

-- no body is under way, and a request is not called back with its digest
abbrev pub is_staged_in : Option Body → Stage → Bool
is_staged_in None Done = false
is_staged_in None stage = true
is_staged_in (Some body) stage = false

abbrev pub is_staged : Place → Bool
is_staged (Main line) = false
is_staged (Running run) = is_staged_in run.body run.stage

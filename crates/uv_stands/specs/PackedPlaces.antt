-- Where the loop stands, from how it is kept in five words, and back.
use Rattle.std.specs.Prelude.{◌≡◌, ℕ, refl, Option, Some, None}
use Rattle.uv_ids.specs.declared.phase.Mode.{Mode}
use Rattle.uv_model.specs.declared.place.Body.{Body}
use Rattle.uv_model.specs.declared.place.Run.{Run}
use Rattle.uv_model.specs.declared.place.Place.{Place}
use Rattle.uv_model.specs.declared.place.Place.TheVariants.{Main, Running}
use Rattle.uv_model.specs.declared.place.Stage.{Stage}
use Rattle.uv_model.specs.declared.place.Stage.TheVariants as stage
use Rattle.uv_stands.specs.declared.packed_place.BodyStage.{BodyStage}
use Rattle.uv_stands.specs.declared.packed_place.BodyStage.TheVariants as kept
use Rattle.uv_stands.specs.declared.packed_place.PlaceForm.{PlaceForm}
use Rattle.uv_stands.specs.declared.packed_place.PlaceForm.TheVariants as form

abbrev pub stage_of : BodyStage → Stage
stage_of kept.Entry = stage.Entry
stage_of kept.Pending = stage.Pending
stage_of (kept.Walking kind) = stage.Walking kind
stage_of kept.Poll = stage.Poll None
stage_of (kept.Polled woken) = stage.Polled woken
stage_of kept.Done = stage.Done
stage_of kept.DoneUnwoken = stage.DoneUnwoken
stage_of kept.Closing = stage.Closing
stage_of (kept.Timers part how) = stage.Timers part how

abbrev pub place_of : PlaceForm → Place
place_of (form.Main line) = Main line
place_of (form.Between mode line s) = Running (record { mode = mode; line = line; stage = s; body = None })
place_of (form.Within mode s line body) = Running (record { mode = mode; line = line; stage = stage_of s; body = Some body })
place_of (form.WithinPoll mode callback line name call next deadline) = Running (record {
  mode = mode;
  line = line;
  stage = stage.Poll (Some deadline);
  body = Some (record { callback = callback; name = name; call = call; next = next });
})

-- a body of a run in this stage
abbrev pub form_within : Mode → ℕ → Body → Stage → PlaceForm
form_within mode line body stage.Entry = form.Within mode kept.Entry line body
form_within mode line body stage.Pending = form.Within mode kept.Pending line body
form_within mode line body (stage.Walking kind) = form.Within mode (kept.Walking kind) line body
form_within mode line body (stage.Poll None) = form.Within mode kept.Poll line body
form_within mode line body (stage.Poll (Some deadline)) =
    form.WithinPoll mode body.callback line body.name body.call body.next deadline
form_within mode line body (stage.Polled woken) = form.Within mode (kept.Polled woken) line body
form_within mode line body stage.Done = form.Within mode kept.Done line body
form_within mode line body stage.DoneUnwoken = form.Within mode kept.DoneUnwoken line body
form_within mode line body stage.Closing = form.Within mode kept.Closing line body
form_within mode line body (stage.Timers part how) = form.Within mode (kept.Timers part how) line body

abbrev pub form_in : Mode → ℕ → Stage → Option Body → PlaceForm
form_in mode line s None = form.Between mode line s
form_in mode line s (Some body) = form_within mode line body s

abbrev pub form_of : Place → PlaceForm
form_of (Main line) = form.Main line
form_of (Running run) = form_in run.mode run.line run.stage run.body

-- each form is kept of its place again
pub form_back : (f : PlaceForm) → form_of (place_of f) ≡ f
form_back (form.Main line) = refl
form_back (form.Between mode line s) = refl
form_back (form.Within mode kept.Entry line body) = refl
form_back (form.Within mode kept.Pending line body) = refl
form_back (form.Within mode (kept.Walking kind) line body) = refl
form_back (form.Within mode kept.Poll line body) = refl
form_back (form.Within mode (kept.Polled woken) line body) = refl
form_back (form.Within mode kept.Done line body) = refl
form_back (form.Within mode kept.DoneUnwoken line body) = refl
form_back (form.Within mode kept.Closing line body) = refl
form_back (form.Within mode (kept.Timers part how) line body) = refl
form_back (form.WithinPoll mode callback line name call next deadline) = refl

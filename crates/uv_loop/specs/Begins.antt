-- Where a section may begin with the next step, none of its list is yet to run.
use Rattle.std.specs.Prelude.{◌≡◌, [], Option, Some, None}
use Rattle.uv_records.specs.declared.lists.ListName.TheVariants as name
use Rattle.uv_arena.specs.Image as arena
use Rattle.uv_arena.specs.Image.{members}
use Rattle.uv_model.specs.declared.place.Body.{Body}
use Rattle.uv_model.specs.declared.place.Place.{Place}
use Rattle.uv_model.specs.declared.place.Place.TheVariants.{Main, Running}
use Rattle.uv_model.specs.declared.place.Stage.{Stage}
use Rattle.uv_model.specs.declared.place.Stage.TheVariants.{Pending, Walking, Poll, Polled, Done}
use Rattle.uv_work.specs.declared.content.Content.{Content}
use Rattle.uv_memory.specs.Image.{Image}
use Rattle.uv_sections.specs.Behind.{IsClearAfter}

-- behind a stage with no body under way
abbrev pub IsClearBehind : Stage → arena.Image Content → Type 0
IsClearBehind Pending i = members i name.IdleYet ≡ []
IsClearBehind (Walking kind) i = IsClearAfter kind i
IsClearBehind (Poll deadline) i = members i name.DoneYet ≡ []
IsClearBehind (Polled woken) i = members i name.DoneYet ≡ []
IsClearBehind Done i = members i name.AsyncYet ≡ []
IsClearBehind stage i = Unit {0}

abbrev pub IsClearIn : Option Body → Stage → arena.Image Content → Type 0
IsClearIn None stage i = IsClearBehind stage i
IsClearIn (Some body) stage i = Unit {0}

abbrev pub IsClearAt : Place → arena.Image Content → Type 0
IsClearAt (Main line) i = Unit {0}
IsClearAt (Running run) i = IsClearIn run.body run.stage i

abbrev pub IsClear : Image Place → Type 0
IsClear i = IsClearAt i.place i.arena

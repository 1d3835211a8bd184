-- What is to be done of an event, or why it is refused, and what may be done.
use Rattle.std.specs.Prelude.{◌≡◌, ◌+◌, ◌<◌, ◌≤◌, true, Option, Some, None, is_some, Result, IfOk, length, slice_get}
use Rattle.std.specs.Result.{result_err}
use Rattle.uv_ids.specs.declared.id.Id.{Id}
use Rattle.uv_ids.specs.declared.id.Var.{Var}
use Rattle.uv_ids.specs.declared.event.Event.{Event}
use Rattle.uv_ids.specs.declared.event.Event.TheVariants as event
use Rattle.uv_ids.specs.declared.fault.Why.{Why}
use Rattle.uv_script.specs.Program.{Program}
use Rattle.uv_model.specs.Limits.{LATEST}
use Rattle.uv_model.specs.declared.place.Body.{Body}
use Rattle.uv_model.specs.declared.place.Place.{Place}
use Rattle.uv_model.specs.declared.place.Place.TheVariants.{Main, Running}
use Rattle.uv_model.specs.declared.place.Run.{Run}
use Rattle.uv_model.specs.declared.place.Stage.{Stage}
use Rattle.uv_model.specs.declared.place.Stage.TheVariants.{Poll}
use Rattle.uv_model.specs.State.{live_handle}
use Rattle.uv_model.specs.Next.{next, may_leave, io_run, io_handle}
use Rattle.uv_model.specs.After.{refusal_of}
use Rattle.uv_memory.specs.Image.{Image}
use Rattle.uv_stands.specs.Doing.{OfEach}
use Rattle.uv_loop.specs.Pooling.{MayTake, MayFinish}
use Rattle.uv_loop.specs.declared.plan.Outside.{Outside}
use Rattle.uv_loop.specs.declared.plan.Outside.TheVariants as outside
use Rattle.uv_loop.specs.declared.plan.Plan.{Plan}
use Rattle.uv_loop.specs.declared.plan.Plan.TheVariants.{Take, Finish, Cancel, Send, Io, Tick}

-- ---- the loop's own step

-- behind a stage with no body under way: a poll may be left
abbrev pub MayBehind : Stage → Image Place → Type 0
MayBehind (Poll deadline) i = OfEach i (λ s. may_leave s deadline ≡ true)
MayBehind stage i = Unit {0}

abbrev pub MayIn : Option Body → Stage → Image Place → Type 0
MayIn None stage i = MayBehind stage i
MayIn (Some body) stage i = Unit {0}

-- the main program has this line
abbrev pub MayAt : Program → Place → Image Place → Type 0
MayAt p (Main line) i = is_some (slice_get p.main line) ≡ true
MayAt p (Running run) i = MayIn run.body run.stage i

-- ---- an event from outside

-- the event that it is
abbrev pub outside_event : Outside → Event
outside_event (outside.Take k) = event.Take k
outside_event (outside.Finish k) = event.Finish k
outside_event (outside.Cancel v) = event.Cancel v
outside_event (outside.Send v) = event.Send v
outside_event (outside.Io v) = event.Io v
outside_event (outside.Tick ms) = event.Tick ms

-- the event that is done so
abbrev pub planned_event : Plan → Event
planned_event (Take k d r) = event.Take k
planned_event (Finish k d r) = event.Finish k
planned_event (Cancel v) = event.Cancel v
planned_event (Send v) = event.Send v
planned_event (Io run v d) = event.Io v
planned_event (Tick ms) = event.Tick ms

-- the run is under way, a callback of I/O may begin in it, and the name is that of this handle of I/O, which is called
pub record MayCall (p : Program) (i : Image Place) (run : Run) (v : Var) (d : Id) : Type 0 where
  pub within : v.0 < length i.names
  pub begins : OfEach i (λ s. io_run p s s.place ≡ Some run)
  pub waits : OfEach i (λ s. io_handle (live_handle s v) ≡ Some d)

-- nothing that the memory shows refuses what is to be done
abbrev pub MayAct : Program → Image Place → Plan → Type 0
MayAct p i (Take k d r) = MayTake i k d r
MayAct p i (Finish k d r) = MayFinish i k d r
MayAct p i (Cancel v) = v.0 < length i.names
MayAct p i (Send v) = v.0 < length i.names
MayAct p i (Io run v d) = MayCall p i run v d
MayAct p i (Tick ms) = i.clock + ms ≤ LATEST

-- what is to be done of the event, or why it is refused
pub record Plans (p : Program) (i : Image Place) (e : Event) (r : Result Plan Why) : Type 0 where
  pub event : IfOk r (λ done. planned_event done ≡ e)
  pub may : IfOk r (λ done. MayAct p i done)
  pub refusal : OfEach i (λ s. refusal_of (next p s e) ≡ result_err r)

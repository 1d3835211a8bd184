-- What an op asks of the handle of its name, and what it comes to from each state that the memory stands for.
use Rattle.std.specs.Prelude.{◌≡◌, Option, Some, None, Result, Ok, Err}
use Rattle.uv_ids.specs.declared.id.Id.{Id}
use Rattle.uv_ids.specs.declared.id.Var.{Var}
use Rattle.uv_ids.specs.declared.code.Code.{Code}
use Rattle.uv_records.specs.declared.handle.HandleRecord.{HandleRecord}
use Rattle.uv_records.specs.Refusals.{no_refusal, timer_refusal, start_timer_refusal, start_watcher_refusal, stop_refusal, again_refusal, close_refusal, send_refusal}
use Rattle.uv_handle.specs.Counted.{record_at}
use Rattle.uv_model.specs.declared.place.Place.{Place}
use Rattle.uv_model.specs.State.{State, live_handle}
use Rattle.uv_model.specs.Ops.{Done, on_handle, refuses}
use Rattle.uv_work.specs.Content.{handle_of}
use Rattle.uv_memory.specs.Image.{Image}
use Rattle.uv_stands.specs.declared.ask.Ask.{Ask}
use Rattle.uv_stands.specs.declared.ask.Ask.TheVariants as ask
use Rattle.uv_stands.specs.Stands.{StandsFor}

-- why a handle refuses it
abbrev pub refusal_of : Ask → HandleRecord → Option Code
refusal_of ask.Handle = no_refusal
refusal_of ask.Timer = timer_refusal
refusal_of ask.StartTimer = start_timer_refusal
refusal_of ask.StartWatcher = start_watcher_refusal
refusal_of ask.Stop = stop_refusal
refusal_of ask.Again = again_refusal
refusal_of ask.Close = close_refusal
refusal_of ask.Send = send_refusal

-- from each state that the memory stands for, an op that does this with the handle of its name comes to that
abbrev pub ComesTo : Image Place → Var → Ask → (State → (Id → HandleRecord → Done) → Done) → Type 0
ComesTo i v a done =
    (s : State) → StandsFor i s → (f : Id → HandleRecord → Done) → on_handle s (live_handle s v) (refusal_of a) f ≡ done s f

-- the name is that of this handle, which doesn't refuse the op, so that it is done
pub record Allows (i : Image Place) (v : Var) (a : Ask) (d : Id) (h : HandleRecord) : Type 0 where
  pub found : record_at handle_of i.arena d ≡ Some h
  pub allowed : refusal_of a h ≡ None
  pub done : ComesTo i v a (λ s f. f d h)

-- the op is done with a handle, or refused with a code
abbrev pub Asked : Image Place → Var → Ask → Result (Id × HandleRecord) Code → Type 0
Asked i v a (Ok t) = Allows i v a t.0 t.1
Asked i v a (Err code) = ComesTo i v a (λ s f. refuses s code)

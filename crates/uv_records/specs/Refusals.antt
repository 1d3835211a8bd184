-- Which ops are refused: the first answer that holds is given, and a refusal changes nothing.
use Rattle.std.specs.Prelude.{Bool, true, false, ◌||◌, not, Option, Some, None}
use Rattle.uv_ids.specs.declared.phase.Kind.{Kind}
use Rattle.uv_ids.specs.declared.phase.Kind.TheVariants as kind
use Rattle.uv_ids.specs.declared.code.Code.{Code}
use Rattle.uv_ids.specs.declared.code.Code.TheVariants.{Estale, Ekind, Einval}
use Rattle.uv_records.specs.declared.handle.HandleRecord.{HandleRecord}
use Rattle.uv_records.specs.Handles.{is_timer, is_async}

-- the refusal of an op, by what its name is bound to: ESTALE if nothing is held there any more, EKIND if it is a request, else the
-- refusal for the handle's record
abbrev pub refusal : (HandleRecord → Option Code) → Option (Option HandleRecord) → Option Code
refusal why None = Some Estale
refusal why (Some None) = Some Ekind
refusal why (Some (Some h)) = why h

-- the kinds that `start v` starts
abbrev pub is_startable : Kind → Bool
is_startable kind.Timer = false
is_startable kind.Idle = true
is_startable kind.Prepare = true
is_startable kind.Check = true
is_startable kind.Async = false
is_startable kind.Io = true

-- EINVAL if this holds
abbrev pub invalid_if : Bool → Option Code
invalid_if true = Some Einval
invalid_if false = None

-- EKIND unless this holds, else as said
abbrev pub only_if : Bool → Option Code → Option Code
only_if true why = why
only_if false why = Some Ekind

-- `ref`, `unref`, `hasref`, `active`, `closing`: of any handle
abbrev pub no_refusal : HandleRecord → Option Code
no_refusal h = None

-- `repeat`, `due`: EKIND if not a timer
abbrev pub timer_refusal : HandleRecord → Option Code
timer_refusal h = only_if (is_timer h.kind) None

-- `start v T R`: EKIND if not a timer; EINVAL if closing
abbrev pub start_timer_refusal : HandleRecord → Option Code
start_timer_refusal h = only_if (is_timer h.kind) (invalid_if h.closing)

-- `start v`: EKIND if not idle, prepare, check or io; EINVAL if closing (own)
abbrev pub start_watcher_refusal : HandleRecord → Option Code
start_watcher_refusal h = only_if (is_startable h.kind) (invalid_if h.closing)

-- `stop v`: EKIND if async
abbrev pub stop_refusal : HandleRecord → Option Code
stop_refusal h = only_if (not (is_async h.kind)) None

-- `again v`: EKIND if not a timer; EINVAL if closing, or if it was never started
abbrev pub again_refusal : HandleRecord → Option Code
again_refusal h = only_if (is_timer h.kind) (invalid_if (h.closing || not h.begun))

-- `close v`: EINVAL if closing (own)
abbrev pub close_refusal : HandleRecord → Option Code
close_refusal h = invalid_if h.closing

-- `send v`: EKIND if not async; EINVAL if closing (own)
abbrev pub send_refusal : HandleRecord → Option Code
send_refusal h = only_if (is_async h.kind) (invalid_if h.closing)

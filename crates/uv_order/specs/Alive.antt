-- Whether the loop is alive, by its handles and by the lists of requests and of handles that close (uv_loop_alive), and how long its
-- poll may wait (uv_backend_timeout).
use Rattle.std.specs.Prelude.{ℕ, ◌-◌, List, [], ◌∷◌, Bool, true, false, ◌||◌, ◌&&◌, not, Option, Some, None, min, if◌then◌else◌}
use Rattle.std.specs.List.{list_any}
use Rattle.uv_ids.specs.declared.id.Id.{Id}
use Rattle.uv_ids.specs.declared.due.Due.{Due}
use Rattle.uv_ids.specs.declared.phase.Mode.{Mode}
use Rattle.uv_ids.specs.declared.phase.Mode.TheVariants.{Default, Once, Nowait}
use Rattle.uv_records.specs.declared.slot.Slot.{Slot}
use Rattle.uv_model.specs.Limits.{LONGEST_POLL}
use Rattle.uv_work.specs.declared.content.Content.{Content}
use Rattle.uv_work.specs.declared.content.Content.TheVariants as content
use Rattle.uv_model.specs.Ids.{has_some}
use Rattle.uv_model.specs.State.{State}

-- a slot holds a handle that is active and referenced
abbrev pub is_kept_by : Option Content → Bool
is_kept_by None = false
is_kept_by (Some (content.Handle h)) = h.active && h.referenced
is_kept_by (Some (content.Request r)) = false

-- some handle is active and referenced
abbrev pub has_handle : State → Bool
has_handle s = list_any (λ (slot : Slot Content). is_kept_by slot.content) s.arena.slots

-- a worker runs a request
abbrev pub has_run : List (Option Id) → Bool
has_run [] = false
has_run (None ∷ running) = has_run running
has_run (Some id ∷ running) = true

-- some request waits for a worker, or is run by one, or is done and its after callback is still to come
abbrev pub has_request : State → Bool
has_request s = (has_some s.waiting || has_run s.running) || (has_some s.done.list || has_some s.done.yet)

-- some handle closes, and its close callback is still to come
abbrev pub closes_some : State → Bool
closes_some s = has_some s.closing.list || has_some s.closing.yet

abbrev pub lives : State → Bool
lives s = has_handle s || (has_request s || closes_some s)

-- until the first timer is due
abbrev pub until_due : ℕ → List (Due × Id) → Option ℕ
until_due time [] = None
until_due time (t ∷ ts) = Some (min (t.0.at - time) LONGEST_POLL)

-- how long a poll may wait where these are the active timers: not at all with the stop flag set, where the loop isn't alive, with an
-- active idle handle, or with one that closes; else until the first timer is due, without an end where there is none
abbrev pub waits : State → List (Due × Id) → Option ℕ
waits s timers =
    if s.stop_flag then Some 0
    else (if not (lives s) then Some 0
    else (if has_some s.watchers.idle.list || has_some s.watchers.idle.yet then Some 0
    else (if closes_some s then Some 0
    else until_due s.time timers)))

-- in nowait not at all, nor in once where an idle handle was active as the iteration began (own)
abbrev pub may_wait : State → List (Due × Id) → Mode → Option ℕ
may_wait s timers Nowait = Some 0
may_wait s timers Once = if s.idled then Some 0 else waits s timers
may_wait s timers Default = waits s timers

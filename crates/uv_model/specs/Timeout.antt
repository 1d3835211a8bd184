-- Whether the loop is alive, and how long its poll may wait.
use Rattle.std.specs.Prelude.{ℕ, ◌+◌, ◌-◌, List, [], ◌∷◌, Bool, false, ◌||◌, not, Option, Some, None, min, nat_le, if◌then◌else◌}
use Rattle.std.specs.List.{list_any}
use Rattle.uv_ids.specs.declared.id.Id.{Id}
use Rattle.uv_ids.specs.declared.due.Due.{Due}
use Rattle.uv_ids.specs.declared.phase.Mode.{Mode}
use Rattle.uv_ids.specs.declared.phase.Mode.TheVariants.{Default, Once, Nowait}
use Rattle.uv_records.specs.declared.slot.Slot.{Slot}
use Rattle.uv_model.specs.Limits.{LONGEST_POLL}
use Rattle.uv_work.specs.declared.content.Content.{Content}
use Rattle.uv_model.specs.Content.{content_keeps, content_pends}
use Rattle.uv_model.specs.Ids.{has_some}
use Rattle.uv_model.specs.State.{State}

-- a handle closes whose close callback is still to come
abbrev pub has_closing : State → Bool
has_closing s = has_some s.closing.list || has_some s.closing.yet

-- the loop is alive: some handle is active and referenced, or closes, or some request has yet to call back (uv_loop_alive)
abbrev pub is_alive : State → Bool
is_alive s = list_any (λ (slot : Slot Content). content_keeps slot.content) s.arena.slots || has_closing s

-- some async handle was sent to, and not called since
abbrev pub has_pending : State → Bool
has_pending s = list_any (λ (slot : Slot Content). content_pends slot.content) s.arena.slots

-- an idle handle is active
abbrev pub has_idle : State → Bool
has_idle s = has_some s.watchers.idle.list || has_some s.watchers.idle.yet

-- how long until the first timer is due: infinite without one, 0 where it is due already
abbrev pub until_first : ℕ → List (Due × Id) → Option ℕ
until_first time [] = None
until_first time (t ∷ ts) = Some (min (t.0.at - time) LONGEST_POLL)

-- how long a poll might wait where these are the active timers (uv_backend_timeout): not at all with the stop flag set, with
-- nothing alive, with an active idle handle, or with a closing handle; else until the nearest active timer, referenced or not; none is infinite
abbrev pub backend_timeout_by : State → List (Due × Id) → Option ℕ
backend_timeout_by s timers =
    if s.stop_flag then Some 0
    else (if not (is_alive s) then Some 0
    else (if has_idle s then Some 0
    else (if has_closing s then Some 0
    else until_first s.time timers)))

-- how long the poll of a run may wait (design overview): not at all in nowait, nor in once where an idle handle was active as
-- the iteration began (own)
abbrev pub poll_timeout_by : State → List (Due × Id) → Mode → Option ℕ
poll_timeout_by s timers Nowait = Some 0
poll_timeout_by s timers Once = if s.idled then Some 0 else backend_timeout_by s timers
poll_timeout_by s timers Default = backend_timeout_by s timers

-- the same by the state's own order of timers
abbrev pub backend_timeout : State → Option ℕ
backend_timeout s = backend_timeout_by s s.timers

abbrev pub poll_timeout : State → Mode → Option ℕ
poll_timeout s mode = poll_timeout_by s s.timers mode

-- when the poll is over, at the latest
abbrev pub deadline_of : State → Option ℕ → Option ℕ
deadline_of s None = None
deadline_of s (Some timeout) = Some (s.time + timeout)

-- the clock has reached the deadline
abbrev pub has_passed : ℕ → Option ℕ → Bool
has_passed clock None = false
has_passed clock (Some deadline) = nat_le deadline clock

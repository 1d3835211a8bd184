-- What each op answers and changes. Of several answers the first that holds is given; a refusal changes nothing.
use Rattle.std.specs.Prelude.{ℕ, Bool, true, false, Option, Some, None, Result, Ok, Err, [], ◌∷◌, ◌++◌, if◌then◌else◌}
use Rattle.std.specs.List.{list_any}
use Rattle.uv_ids.specs.declared.id.Id.{Id}
use Rattle.uv_ids.specs.declared.id.Var.{Var}
use Rattle.uv_ids.specs.declared.phase.Kind.{Kind}
use Rattle.uv_ids.specs.declared.code.Code.{Code}
use Rattle.uv_ids.specs.declared.code.Code.TheVariants.{Ok as Success, Ebusy, Ebound, Efull}
use Rattle.uv_ids.specs.declared.code.Answer.{Answer}
use Rattle.uv_ids.specs.declared.code.Answer.TheVariants as answer
use Rattle.uv_script.specs.declared.op.Op.{Op}
use Rattle.uv_work.specs.declared.task.Task.{Task}
use Rattle.uv_script.specs.declared.op.Op.TheVariants as op
use Rattle.uv_records.specs.declared.handle.HandleRecord.{HandleRecord}
use Rattle.uv_records.specs.declared.lists.WatcherKind.{WatcherKind}
use Rattle.uv_records.specs.declared.lists.WatcherKind.TheVariants as watcher
use Rattle.uv_records.specs.declared.slot.Slot.{Slot}
use Rattle.uv_records.specs.Dues.{due_in}
use Rattle.uv_records.specs.Handles as records
use Rattle.uv_records.specs.Handles.{inited, activated, referenced_as, repeating, is_async}
use Rattle.uv_records.specs.Lists.{watcher_kind}
use Rattle.uv_records.specs.Refusals.{no_refusal, timer_refusal, start_timer_refusal, start_watcher_refusal, stop_refusal, again_refusal, close_refusal, send_refusal}
use Rattle.uv_records.specs.Slots.{next_free, taken}
use Rattle.uv_records.specs.Walks.{with_first, with_last}
use Rattle.uv_work.specs.declared.outcome.Outcome.{Outcome}
use Rattle.uv_work.specs.declared.outcome.Outcome.TheVariants.{Cancelled}
use Rattle.uv_work.specs.declared.content.Content.{Content}
use Rattle.uv_work.specs.declared.content.Content.TheVariants as content
use Rattle.uv_work.specs.Requests.{queued}
use Rattle.uv_model.specs.Content.{is_used}
use Rattle.uv_work.specs.declared.request.Request.{Request}
use Rattle.uv_model.specs.Found.{found_or}
use Rattle.uv_model.specs.Ids.{same_id, without_id}
use Rattle.uv_model.specs.State.{State, live, live_handle, live_request, named, with_named, with_handle, with_request, watched, with_watched, refreshed}
use Rattle.uv_model.specs.Timers.{taken_off, stopped, started, restarted}
use Rattle.uv_model.specs.Timeout.{is_alive, backend_timeout}

-- the state after an op, and its answer
pub record Done : Type 0 where
  pub state : State
  pub answer : Answer

-- an op that changes nothing
abbrev pub says : State → Answer → Done
says s a = record { state = s; answer = a }

abbrev pub refuses : State → Code → Done
refuses s code = says s (answer.Code code)

abbrev pub succeeds : State → Done
succeeds s = says s (answer.Code Success)

-- ---- handles

-- an async handle goes to the end of its list as it is made, a handle of another kind on none
abbrev pub listed_last : State → Kind → Id → State
listed_last s kind id = if is_async kind then with_watched s watcher.Async (with_last (watched s watcher.Async) id) else s

-- a name is bound to the id that a new handle or request of it gets
abbrev pub bound_to : State → Var → Id → State
bound_to s v id = with_named s v (record (named s v) { id = Some id })

-- the state with a new handle of a name, under an id that is free
abbrev pub with_new : State → Var → Kind → Id → State
with_new s v kind id = bound_to (listed_last (record s { arena = taken id (content.Handle (inited v kind)) s.arena }) kind id) v id

-- `init v KIND`, `queue v r text`: EBOUND if v is live; EFULL if no slot is left; else v is bound to what is made under the next free
-- id, which is the answer
abbrev pub make : State → Option (Id × Content) → (Id → State) → Done
make s (Some bound) made = refuses s Ebound
make s None made = found_or (next_free s.arena) (λ id. record { state = made id; answer = answer.Id id }) (refuses s Efull)

-- an op on a handle: ESTALE if v isn't live, EKIND if it is a request; else refused as its record says, or done
abbrev pub on_handle : State → Result (Id × HandleRecord) Code → (HandleRecord → Option Code) → (Id → HandleRecord → Done) → Done
on_handle s (Err code) why f = refuses s code
on_handle s (Ok t) why f = found_or (why t.1) (refuses s) (f t.0 t.1)

-- `stop v`: stopped
abbrev pub stop : State → Id → HandleRecord → Done
stop s id h = succeeds (stopped s id h)

-- a handle that is closed: stopped, no send pending, and at the front of the closing list
abbrev pub closed : State → Id → HandleRecord → State
closed s id h =
    let off = taken_off s id h in
    with_handle (record off { closing = with_first s.closing id }) id (records.closed h)

-- `close v`: closed
abbrev pub close : State → Id → HandleRecord → Done
close s id h = succeeds (closed s id h)

-- `ref v`, `unref v`: the handle is referenced or not
abbrev pub set_referenced : State → Bool → Id → HandleRecord → Done
set_referenced s flag id h = succeeds (with_handle s id (referenced_as flag h))

-- ---- watchers

-- a watcher that is started: active, and at the front of its list
abbrev pub watcher_started : State → WatcherKind → Id → HandleRecord → State
watcher_started s kind id h = with_handle (with_watched s kind (with_first (watched s kind) id)) id (activated h)

-- `start v`: started, if it isn't active; a handle of I/O is on no list
abbrev pub start_watcher : State → Id → HandleRecord → Done
start_watcher s id h = succeeds
    (if h.active then s else found_or (watcher_kind h.kind) (λ kind. watcher_started s kind id h) (with_handle s id (activated h)))

-- ---- async handles

-- the state after a send, and the code that it answers
pub record Coded : Type 0 where
  pub state : State
  pub code : Code

-- `send v`: ESTALE if v isn't live, EKIND if it is a request; else refused as its record says, or a callback is pending
abbrev pub send : State → Result (Id × HandleRecord) Code → Coded
send s (Err code) = record { state = s; code = code }
send s (Ok t) = found_or (send_refusal t.1)
    (λ code. record { state = s; code = code })
    (record { state = with_handle s t.0 (records.sent t.1); code = Success })

-- the same as an op
abbrev pub says_code : Coded → Done
says_code c = record { state = c.state; answer = answer.Code c.code }

-- ---- timers

-- `start v T R`: stopped, and then started
abbrev pub start : State → ℕ → ℕ → Id → HandleRecord → Done
start s timeout repeat id h = succeeds (started (stopped s id h) id h timeout repeat)

-- `again v`: stopped, and started again if it repeats
abbrev pub again : State → Id → HandleRecord → Done
again s id h = succeeds (restarted (stopped s id h) id h)

-- `repeat v n`: its repeat is n from now on; when it is due stays
abbrev pub set_repeat : State → ℕ → Id → HandleRecord → Done
set_repeat s n id h = succeeds (with_handle s id (repeating n h))

-- ---- the loop

-- some slot holds a handle
abbrev pub is_in_use : State → Bool
is_in_use s = list_any (λ (slot : Slot Content). is_used slot.content) s.arena.slots

-- `closeloop`: EBUSY if some slot holds a handle or a request; else ok. It changes nothing (uv_loop_close)
abbrev pub close_loop : State → Done
close_loop s = if is_in_use s then refuses s Ebusy else succeeds s

-- ---- requests

-- the state with a new request of a name, under an id that is free: it waits for a worker, behind the others
abbrev pub with_queued : State → Var → Task → Id → State
with_queued s v task id = bound_to
    (record s { arena = taken id (content.Request (queued v task)) s.arena; waiting = s.waiting ++ id ∷ [] })
    v
    id

-- a request that is finished or cancelled: it goes to the end of those whose after callback is still to come
abbrev pub ended : State → Id → Request → Outcome → State
ended s id r outcome = with_request (record s { done = with_last s.done id }) id (record r { outcome = outcome })

-- a request that waits is cancelled
abbrev pub cancelled : State → Id → Request → State
cancelled s id r = ended (record s { waiting = without_id s.waiting id }) id r Cancelled

-- `cancel v`: ESTALE if v isn't live, EKIND if it is a handle; EBUSY unless it waits for a worker; else cancelled
abbrev pub cancel : State → Result (Id × Request) Code → Done
cancel s (Err code) = refuses s code
cancel s (Ok t) =
    if list_any (same_id t.0) s.waiting
    then record { state = cancelled s t.0 t.1; answer = answer.Cancelled t.0 }
    else refuses s Ebusy

-- ---- any op

abbrev pub do_op : State → Op → Done
do_op s (op.Init v kind) = make s (live s v) (with_new s v kind)
do_op s (op.Queue v task) = make s (live s v) (with_queued s v task)
do_op s (op.Cancel v) = cancel s (live_request s v)
do_op s (op.Start v timeout repeat) = on_handle s (live_handle s v) start_timer_refusal (start s timeout repeat)
do_op s (op.StartWatcher v) = on_handle s (live_handle s v) start_watcher_refusal (start_watcher s)
do_op s (op.Stop v) = on_handle s (live_handle s v) stop_refusal (stop s)
do_op s (op.Again v) = on_handle s (live_handle s v) again_refusal (again s)
do_op s (op.SetRepeat v n) = on_handle s (live_handle s v) timer_refusal (set_repeat s n)
do_op s (op.DueIn v) = on_handle s (live_handle s v) timer_refusal (λ id h. says s (answer.Number (due_in s.time h)))
do_op s (op.Close v) = on_handle s (live_handle s v) close_refusal (close s)
do_op s (op.Ref v) = on_handle s (live_handle s v) no_refusal (set_referenced s true)
do_op s (op.Unref v) = on_handle s (live_handle s v) no_refusal (set_referenced s false)
do_op s (op.HasRef v) = on_handle s (live_handle s v) no_refusal (λ id h. says s (answer.Flag h.referenced))
do_op s (op.IsActive v) = on_handle s (live_handle s v) no_refusal (λ id h. says s (answer.Flag h.active))
do_op s (op.IsClosing v) = on_handle s (live_handle s v) no_refusal (λ id h. says s (answer.Flag h.closing))
do_op s (op.Send v) = says_code (send s (live_handle s v))
do_op s op.StopLoop = succeeds (record s { stop_flag = true })
do_op s op.UpdateTime = succeeds (refreshed s)
do_op s op.Now = says s (answer.Number s.time)
do_op s op.IsAlive = says s (answer.Flag (is_alive s))
do_op s op.Timeout = says s (answer.Timeout (backend_timeout s))
do_op s op.CloseLoop = close_loop s

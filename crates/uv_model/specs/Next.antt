-- One step of the loop: a place and what holds there give the line and the next place (design overview, the orders of 1.44 and 1.45).
-- The loop's own steps in short; what comes from outside stands behind them, and needs no place except for a callback of I/O:
--
--   place                     line                                        next place
--   main program: an op       the op = its answer                         the next line
--   main program: `run`       run MODE                                    the run's entry
--   main program: its end     (refused: ended)
--   callback: an op           the op = its answer                         its next op
--   callback: its end         none                                        the stage that it came from
--   entry                     timers, pending or end                      as `way` says
--   timers, collecting        none, for each that is due                  the same; with none due as in firing
--   timers, firing            call NAME ID                                its callback; with none ready as `way` says
--   pending                   idle                                        idle
--   idle                      call NAME ID                                its callback; with none left `prepare` begins
--   prepare                   call NAME ID                                its callback; with none left `poll T` begins
--   poll                      done                                        done (refused while it is blocked)
--   done                      after NAME ID CODE                          its callback; with none left `async` begins
--   async                     call NAME ID, or none for one not sent to   its callback; with none left `check` begins
--   check                     call NAME ID                                its callback; with none left `closing` begins
--   closing                   closed NAME ID                              its callback; with none left as `way` says
--
-- In a script with `timers heap` a due timer is called at once, and none is collected.
use Rattle.std.specs.Prelude.{ℕ, ◌+◌, List, [], ◌∷◌, ◌++◌, Bool, true, false, ◌&&◌, not, drop, Option, Some, None, Result, Ok, Err, slice_get, slice_set, length, nat_le, nat_lt, ◌||◌, if◌then◌else◌}
use Rattle.uv_ids.specs.declared.id.Id.{Id}
use Rattle.uv_ids.specs.declared.id.Var.{Var}
use Rattle.uv_ids.specs.declared.due.Due.{Due}
use Rattle.uv_ids.specs.declared.order.Order.{Order}
use Rattle.uv_ids.specs.declared.order.Order.TheVariants.{V144, V145}
use Rattle.uv_ids.specs.declared.phase.Mode.{Mode}
use Rattle.uv_ids.specs.declared.phase.Mode.TheVariants.{Default, Once, Nowait}
use Rattle.uv_ids.specs.declared.phase.Phase.{Phase}
use Rattle.uv_ids.specs.declared.phase.Phase.TheVariants as phase
use Rattle.uv_ids.specs.declared.event.Event.{Event}
use Rattle.uv_ids.specs.declared.event.Event.TheVariants.{Loop, Take, Finish, Cancel, Send, Io, Tick}
use Rattle.uv_ids.specs.declared.seen.Seen.{Seen}
use Rattle.uv_ids.specs.declared.seen.Seen.TheVariants as seen
use Rattle.uv_ids.specs.declared.seen.Callback.{Callback}
use Rattle.uv_ids.specs.declared.seen.Callback.TheVariants as callback
use Rattle.uv_ids.specs.declared.seen.Site.TheVariants as site
use Rattle.uv_ids.specs.declared.code.Code.{Code}
use Rattle.uv_ids.specs.declared.fault.Why.{Why}
use Rattle.uv_ids.specs.declared.fault.Why.TheVariants.{Blocked, Ended, NoWork, BusyWorker, IdleWorker, NoWorker, Range}
use Rattle.uv_script.specs.declared.op.MainOp.{MainOp}
use Rattle.uv_script.specs.declared.op.MainOp.TheVariants as main
use Rattle.uv_script.specs.declared.op.CallbackLine.{CallbackLine}
use Rattle.uv_script.specs.Program.{Program, arena_size, order_of, has_io, from_heap, lines_in}
pub use Rattle.uv_script.specs.Program.{next_line}
use Rattle.uv_work.specs.Tasks.{text_of}
use Rattle.uv_model.specs.Limits.{LATEST}
use Rattle.uv_model.specs.declared.place.Body.{Body}
use Rattle.uv_model.specs.declared.place.Run.{Run}
use Rattle.uv_model.specs.declared.place.Stage.{Stage}
use Rattle.uv_model.specs.declared.place.Stage.TheVariants.{Entry, Pending, Walking, Poll, Polled, Done, DoneUnwoken, Closing, Timers}
use Rattle.uv_model.specs.declared.place.TimersOf.{TimersOf}
use Rattle.uv_model.specs.declared.place.TimersOf.TheVariants as timers_of
use Rattle.uv_model.specs.declared.place.Turn.{Turn}
use Rattle.uv_model.specs.declared.place.Turn.TheVariants.{AtEntry, Behind, BehindClosing}
use Rattle.uv_model.specs.declared.place.Way.{Way}
use Rattle.uv_model.specs.declared.place.Way.TheVariants.{ToTimers, ToPending, ToEnd}
use Rattle.uv_model.specs.declared.place.Timing.{Timing}
use Rattle.uv_model.specs.declared.place.Timing.TheVariants.{Collecting, Firing}
use Rattle.uv_model.specs.declared.place.Place.{Place}
use Rattle.uv_model.specs.declared.place.Place.TheVariants.{Main, Running}
use Rattle.uv_records.specs.declared.handle.HandleRecord.{HandleRecord}
use Rattle.uv_records.specs.declared.lists.WatcherKind.{WatcherKind}
use Rattle.uv_records.specs.declared.lists.WatcherKind.TheVariants as watcher
use Rattle.uv_records.specs.Handles as records
use Rattle.uv_records.specs.Lists.{phase_of}
use Rattle.uv_records.specs.Slots.{freed}
use Rattle.uv_records.specs.Walks.{all_yet, moved_on}
use Rattle.uv_work.specs.Digests.{digest_of}
use Rattle.uv_work.specs.declared.outcome.Outcome.TheVariants.{Finished}
use Rattle.uv_work.specs.declared.request.Request.{Request}
use Rattle.uv_work.specs.Requests.{digest_in}
use Rattle.uv_model.specs.Found.{found_or}
use Rattle.uv_model.specs.Ids.{has_some}
use Rattle.uv_model.specs.State.{State, live_handle, live_request, handle, request, with_id, front_request, with_handle, named, with_named, front, watched, with_watched, refreshed}
use Rattle.uv_records.specs.Names.{count_of, counted}
use Rattle.uv_model.specs.Timers.{stopped, restarted}
use Rattle.uv_model.specs.Timeout.{is_alive, has_pending, poll_timeout, deadline_of, has_passed}
use Rattle.uv_model.specs.Ops.{do_op, send, cancel, ended}

-- what an event does: the state after it and the line that it appends, if it appends one; or why it is refused
pub data Next : Type 0 where
  Moves : State → Option Seen → Next
  Refuses : Why → Next

-- ---- the callbacks' bodies

-- the body of a call, if it has a line from this one on
abbrev pub body_at : Callback → Var → ℕ → Option ℕ → Option Body
body_at kind v call None = None
body_at kind v call (Some next) = Some (record { callback = kind; name = v; call = call; next = next })

abbrev pub body_from : Program → Callback → Var → ℕ → ℕ → Option Body
body_from p kind v call number = body_at kind v call (next_line call number (drop number (lines_in p kind v)))

-- ---- where a run stands

abbrev pub at : State → Run → Stage → State
at s run stage = record s { place = Running (record run { stage = stage; body = None }) }

-- a section begins
abbrev pub begins : State → Run → Stage → Phase → Next
begins s run stage phase = Moves (at s run stage) (Some (seen.Section phase))

-- the run ends, and says whether the loop is alive; the stop flag is cleared
abbrev pub ends : State → Run → Next
ends s run = Moves (record s { place = Main (run.line + 1); stop_flag = false }) (Some (seen.End (is_alive s)))

abbrev pub is_default : Mode → Bool
is_default Default = true
is_default Once = false
is_default Nowait = false

-- the loop goes on: it is alive, and the stop flag is clear
abbrev pub goes : State → Bool
goes s = is_alive s && not s.stop_flag

-- how a run goes on from a turn, where the loop goes on or doesn't. In the order of 1.45 default begins with the timers that are due, and
-- one iteration follows another; else there is one iteration at most, and each ends with its timers. In the order of 1.44 each iteration
-- begins with its timers, and in once others are behind it
abbrev pub way : Order → Mode → Bool → Turn → Way
way V145 m go BehindClosing = ToTimers timers_of.Iteration
way V145 m false AtEntry = ToEnd
way V145 Default true AtEntry = ToTimers timers_of.Entry
way V145 Once true AtEntry = ToPending
way V145 Nowait true AtEntry = ToPending
way V145 m false (Behind timers_of.Entry) = ToEnd
way V145 m true (Behind timers_of.Entry) = ToPending
way V145 Default true (Behind timers_of.Iteration) = ToPending
way V145 Default false (Behind timers_of.Iteration) = ToEnd
way V145 Once go (Behind timers_of.Iteration) = ToEnd
way V145 Nowait go (Behind timers_of.Iteration) = ToEnd
way V144 m false AtEntry = ToEnd
way V144 m true AtEntry = ToTimers timers_of.Entry
way V144 m go (Behind timers_of.Entry) = ToPending
way V144 m go (Behind timers_of.Iteration) = ToEnd
way V144 Default true BehindClosing = ToTimers timers_of.Entry
way V144 Default false BehindClosing = ToEnd
way V144 Once go BehindClosing = ToTimers timers_of.Iteration
way V144 Nowait go BehindClosing = ToEnd

-- the time as timers begin: it is refreshed, but not for those of the entry in the order of 1.45
abbrev pub time_at : Order → TimersOf → State → ℕ
time_at V145 timers_of.Entry s = s.time
time_at V145 timers_of.Iteration s = s.clock
time_at V144 part s = s.clock

-- whether the loop idled, as timers begin: in the order of 1.44 it didn't as an iteration begins
abbrev pub idled_at : Order → TimersOf → State → Bool
idled_at V145 part s = s.idled
idled_at V144 timers_of.Entry s = false
idled_at V144 timers_of.Iteration s = s.idled

-- and as the pending section begins: in the order of 1.45 it keeps whether an idle handle is active
abbrev pub idled_then : Order → State → Bool
idled_then V145 s = has_some s.watchers.idle.list
idled_then V144 s = s.idled

-- it goes on so
abbrev pub goes_by : Order → State → Run → Way → Next
goes_by o s run (ToTimers part) =
    begins (record s { time = time_at o part s; idled = idled_at o part s }) run (Timers part Collecting) phase.Timers
goes_by o s run ToPending = begins (record s { idled = idled_then o s }) run Pending phase.Pending
goes_by o s run ToEnd = ends s run

-- the run goes on from a turn
abbrev pub turns : Order → State → Run → Turn → Next
turns o s run turn = goes_by o s run (way o run.mode (goes s) turn)

-- ---- the rows

-- the poll begins, with its timeout
abbrev pub begin_poll : State → Run → Next
begin_poll s run =
    let timeout = poll_timeout s run.mode in
    Moves (at s run (Poll (deadline_of s timeout))) (Some (seen.Poll timeout))

-- a poll is woken by a request that is done, or by an async handle that was sent to (uv_async_send)
abbrev pub is_woken : State → Bool
is_woken s = has_some s.done.list || has_pending s

-- it is left when its deadline has passed, or when it is woken
abbrev pub may_leave : State → Option ℕ → Bool
may_leave s deadline = has_passed s.clock deadline || is_woken s

-- the requests that are done are yet to call back
abbrev pub begin_done : State → Run → Next
begin_done s run = begins (record s { done = all_yet s.done }) run Done phase.Done

-- on leaving the poll the time is refreshed
abbrev pub poll : State → Run → Option ℕ → Next
poll s run deadline = if may_leave s deadline then begin_done (refreshed s) run else Refuses Blocked

-- behind a poll that a callback of I/O left, which has refreshed the time: where nobody woke that poll, neither a request nor an async
-- handle is called in this iteration
abbrev pub leave_polled : State → Run → Bool → Next
leave_polled s run true = begin_done s run
leave_polled s run false = begins s run DoneUnwoken phase.Done

-- a callback begins, with this line: one call more of its name
abbrev pub calls : Program → State → Run → Callback → Var → Seen → Next
calls p s run kind v line =
    let counts = counted kind (named s v).calls in
    Moves
    (record (with_named s v (record (named s v) { calls = counts }))
    { place = Running (record run { body = body_from p kind v (count_of kind counts) 0 }) })
    (Some line)

-- the callback of a handle begins
abbrev pub call : Program → State → Run → Id → Var → Next
call p s run id v = calls p s run callback.Handle v (seen.Call v id)

-- the front of the ready list is called, started again where it repeats; with none the section is over
abbrev pub fire : Program → State → Run → TimersOf → Next
fire p s run part = found_or (front s s.ready)
    (λ t. call p (restarted (record s { ready = drop 1 s.ready }) t.0 t.1) (record run { stage = Timers part Firing }) t.0 t.1.name)
    (turns (order_of p) s run (Behind part))

-- the first timer, if it is due
abbrev pub first_due : State → List (Due × Id) → Option (Id × HandleRecord)
first_due s [] = None
first_due s (t ∷ ts) = if nat_le t.0.at s.time then with_id t.1 (handle s t.1) else None

-- the first timer leaves the order of timers for the end of the ready list, inactive
abbrev pub collected : State → Id → HandleRecord → State
collected s id h = with_handle (record s { timers = drop 1 s.timers; ready = s.ready ++ id ∷ [] }) id (records.stopped h)

-- due timers are called straight from their heap until none is due: each time the first one is stopped, started again where it repeats, and
-- called (uv__run_timers before libuv 1.48)
abbrev pub call_due : Program → State → Run → TimersOf → Next
call_due p s run part = found_or (first_due s s.timers)
    (λ t. call p (restarted (stopped s t.0 t.1) t.0 t.1) (record run { stage = Timers part Collecting }) t.0 t.1.name)
    (turns (order_of p) s run (Behind part))

-- all due timers are collected, one a step and without a line, before the first is called
abbrev pub collect : Program → State → Run → TimersOf → Next
collect p s run part = found_or (first_due s s.timers)
    (λ t. Moves (at (collected s t.0 t.1) run (Timers part Collecting)) None)
    (fire p s run part)

abbrev pub timers : Program → State → Run → TimersOf → Timing → Next
timers p s run part Collecting = if from_heap p then call_due p s run part else collect p s run part
timers p s run part Firing = fire p s run part

-- a section that walks handles of a kind begins: its whole list is yet to run
abbrev pub begin_walk : State → Run → WatcherKind → Next
begin_walk s run kind = begins (with_watched s kind (all_yet (watched s kind))) run (Walking kind) (phase_of kind)

-- so does the closing section
abbrev pub begin_closing : State → Run → Next
begin_closing s run = begins (record s { closing = all_yet s.closing }) run Closing phase.Closing

-- behind the section of a kind
abbrev pub after_walk : State → Run → WatcherKind → Next
after_walk s run watcher.Idle = begin_walk s run watcher.Prepare
after_walk s run watcher.Prepare = begin_poll s run
after_walk s run watcher.Check = begin_closing s run
after_walk s run watcher.Async = begin_walk s run watcher.Check

-- the front of those yet to run goes to the end of the list
abbrev pub front_moved : State → WatcherKind → Id → State
front_moved s kind id = with_watched s kind (moved_on (watched s kind) id (drop 1 (watched s kind).yet))

-- it is called; with none the section is over
abbrev pub walk : Program → State → Run → WatcherKind → Next
walk p s run kind = found_or (front s (watched s kind).yet)
    (λ t. call p (front_moved s kind t.0) run t.0 t.1.name)
    (after_walk s run kind)

-- an async handle that was sent to is called, and isn't pending any more; another one is passed by without a line
abbrev pub walk_async : Program → State → Run → Next
walk_async p s run = found_or (front s s.watchers.async.yet)
    (λ t.
    let moved = front_moved s watcher.Async t.0 in
    if t.1.pending then call p (with_handle moved t.0 (records.woken t.1)) run t.0 t.1.name
    else Moves (at moved run (Walking watcher.Async)) None)
    (after_walk s run watcher.Async)

-- such a section goes on
abbrev pub in_walk : Program → State → Run → WatcherKind → Next
in_walk p s run watcher.Async = walk_async p s run
in_walk p s run kind = walk p s run kind

-- the front of the closing handles leaves its list, its slot is freed and its close callback begins; with none the section is over
abbrev pub close_front : Program → State → Run → Next
close_front p s run = found_or (front s s.closing.yet)
    (λ t.
    let gone = record s { arena = freed (arena_size p).last_generation t.0 s.arena; closing = record s.closing { yet = drop 1 s.closing.yet } } in
    calls p gone run callback.Close t.1.name (seen.Closed t.1.name t.0))
    (turns (order_of p) s run BehindClosing)

-- the front of the requests that are done leaves its list, its slot is freed and its after callback begins; with none the async
-- handles begin
abbrev pub collect_request : Program → State → Run → Next
collect_request p s run = found_or (front_request s s.done.yet)
    (λ t.
    let gone = record s { arena = freed (arena_size p).last_generation t.0 s.arena; done = record s.done { yet = drop 1 s.done.yet } } in
    calls p gone run callback.After t.1.name (seen.After (digest_in t.1.outcome) t.1.name t.0))
    (begin_walk s run watcher.Async)

-- what a run does next where no body is under way
abbrev pub stage_step : Program → State → Run → Stage → Next
stage_step p s run Entry = turns (order_of p) s run AtEntry
stage_step p s run Pending = begin_walk s run watcher.Idle
stage_step p s run (Walking kind) = in_walk p s run kind
stage_step p s run (Poll deadline) = poll s run deadline
stage_step p s run (Polled woken) = leave_polled s run woken
stage_step p s run Done = collect_request p s run
stage_step p s run DoneUnwoken = begins s run (Walking watcher.Async) phase.Async
stage_step p s run Closing = close_front p s run
stage_step p s run (Timers part timing) = timers p s run part timing

-- a body under way does its next op
abbrev pub body_step : Program → State → Run → Body → Option CallbackLine → Next
body_step p s run body None = Moves (record s { place = Running (record run { body = None }) }) None
body_step p s run body (Some line) =
    let done = do_op s line.op in
    Moves
    (record done.state { place = Running (record run { body = body_from p body.callback body.name body.call (body.next + 1) }) })
    (Some (seen.Op (site.In body.callback body.name body.next) done.answer))

abbrev pub run_step : Program → State → Run → Option Body → Next
run_step p s run None = stage_step p s run run.stage
run_step p s run (Some body) = body_step p s run body (slice_get (lines_in p body.callback body.name) body.next)

-- a default run refreshes the time as it begins, in the order of 1.45
abbrev pub refreshes : Order → Mode → Bool
refreshes V145 m = is_default m
refreshes V144 m = false

-- the main program does its next line
abbrev pub main_step : Order → State → ℕ → Option MainOp → Next
main_step o s line None = Refuses Ended
main_step o s line (Some (main.Run mode)) = Moves
    (record (if refreshes o mode then refreshed s else s) { place = Running (record { mode = mode; line = line; stage = Entry; body = None }) })
    (Some (seen.Run mode))
main_step o s line (Some (main.Op op)) =
    let done = do_op s op in
    Moves (record done.state { place = Main (line + 1) }) (Some (seen.Op (site.Main line) done.answer))

abbrev pub loop_step : Program → State → Place → Next
loop_step p s (Main line) = main_step (order_of p) s line (slice_get p.main line)
loop_step p s (Running run) = run_step p s run run.body

-- the clock goes on
abbrev pub tick : State → ℕ → Next
tick s ms = if nat_le (s.clock + ms) LATEST then Moves (record s { clock = s.clock + ms }) (Some (seen.Tick ms)) else Refuses Range

-- an async handle is sent to from outside, by its name
abbrev pub sent_to : State → Var → Next
sent_to s v =
    let done = send s (live_handle s v) in
    if nat_lt v.0 (length s.names) then Moves done.state (Some (seen.Send v done.code)) else Refuses Range

-- ---- I/O

-- whether a callback of I/O may begin where a run stands: no callback is under way, and it is in the pending section, in the poll, or
-- behind it, in the done section or at the end of the async one
abbrev pub takes_io : State → Stage → Option Body → Bool
takes_io s stage (Some body) = false
takes_io s Pending None = true
takes_io s (Poll deadline) None = true
takes_io s (Polled woken) None = true
takes_io s Done None = true
takes_io s DoneUnwoken None = true
takes_io s (Walking watcher.Async) None = not (has_some s.watchers.async.yet)
takes_io s stage None = false

-- the run under way, where one may begin; none does in a script without a line `io`
abbrev pub io_run : Program → State → Place → Option Run
io_run p s (Main line) = None
io_run p s (Running run) = if has_io p && takes_io s run.stage run.body then Some run else None

-- the handle of I/O that is called, by its name: a live one that is active
abbrev pub io_handle : Result (Id × HandleRecord) Code → Option Id
io_handle (Err code) = None
io_handle (Ok t) = if records.is_io t.1.kind && t.1.active then Some t.0 else None

-- the first callback of I/O in a poll leaves it, and it is kept whether the poll was woken before
abbrev pub stage_polled : State → Stage → Stage
stage_polled s (Poll deadline) = Polled (is_woken s)
stage_polled s stage = stage

-- it refreshes the time
abbrev pub time_polled : State → Stage → ℕ
time_polled s (Poll deadline) = s.clock
time_polled s stage = s.time

-- what the handle waits for has come, and its callback begins
abbrev pub call_io : Program → State → Var → Option Run → Option Id → Next
call_io p s v (Some run) (Some id) = calls p (record s { time = time_polled s run.stage }) (record run { stage = stage_polled s run.stage })
    callback.Handle v (seen.Io v id)
call_io p s v _ _ = Refuses Blocked

abbrev pub io : Program → State → Var → Next
io p s v = if nat_lt v.0 (length s.names) then call_io p s v (io_run p s s.place) (io_handle (live_handle s v)) else Refuses Range

-- ---- the thread pool

-- what a worker may take, by what it runs: there has to be such a worker, which runs nothing, and the request that waits longest
abbrev pub next_work : State → Option (Option Id) → Result (Id × Request) Why
next_work s None = Err NoWorker
next_work s (Some (Some id)) = Err BusyWorker
next_work s (Some None) = found_or (front_request s s.waiting) Ok (Err NoWork)

-- the worker runs it
abbrev pub take : State → ℕ → Result (Id × Request) Why → Next
take s k (Err why) = Refuses why
take s k (Ok t) =
    Moves (record s { waiting = drop 1 s.waiting; running = slice_set s.running k (Some t.0) }) (Some (seen.Take k t.1.name t.0))

-- what a worker may finish, by what it runs: there has to be such a worker, and the request that it runs
abbrev pub work_of : State → Option (Option Id) → Result (Id × Request) Why
work_of s None = Err NoWorker
work_of s (Some None) = Err IdleWorker
work_of s (Some (Some id)) = found_or (with_id id (request s id)) Ok (Err IdleWorker)

-- the worker runs nothing any more, and the request is finished with the digest of its job
abbrev pub finish : State → ℕ → Result (Id × Request) Why → Next
finish s k (Err why) = Refuses why
finish s k (Ok t) = Moves
    (ended (record s { running = slice_set s.running k None }) t.0 t.1 (Finished (digest_of t.1.task.rounds (text_of t.1.task))))
    (Some (seen.Finish k t.1.name t.0))

-- a request is cancelled from outside, by its name
abbrev pub cancels : State → Var → Next
cancels s v =
    let done = cancel s (live_request s v) in
    if nat_lt v.0 (length s.names) then Moves done.state (Some (seen.Cancel v done.answer)) else Refuses Range

-- one step
unfoldable pub next : Program → State → Event → Next
next p s Loop = loop_step p s s.place
next p s (Take k) = take s k (next_work s (slice_get s.running k))
next p s (Finish k) = finish s k (work_of s (slice_get s.running k))
next p s (Cancel v) = cancels s v
next p s (Send v) = sent_to s v
next p s (Io v) = io p s v
next p s (Tick ms) = tick s ms

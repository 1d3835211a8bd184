-- What a step does, in a row for each way: the tree of the steps is walked here, once, and whatever steps keep is shown by rows.
use Rattle.uv_order.proofs.Names.{arith, ◌≡◌, ℕ, ◌+◌, ◌&&◌, List, ◌∷◌, Bool, true, false, Option, Some, None, Result, Ok, Err, drop, length, nat_le, nat_lt, slice_get, option_map, refl, ap, cond_both, and_parts, Id, Var, Due, Event, Cancel, Send, Tick, Why, Blocked, Ended, Range, Mode, Phase, Seen, Site, HandleRecord, WatcherKind, is_io, CallbackLine, MainOp, Op, Program, arena_size, from_heap, lines_in, main_op, op_at, order_of, Request, digest_in, Body, Place, Run, Stage, Pending, Poll, Polled, Done, DoneUnwoken, Closing, Timers, Collecting, Firing, TimersOf, Turn, Behind, BehindClosing, Way, ToTimers, ToPending, ToEnd, State, handle, with_handle, live_handle, live_request, front, front_request, watched, refreshed, stopped, restarted, do_op, Next, Moves, Refuses, call, calls, first_due, front_moved, goes, io_handle, io_run, may_leave, next_work, stage_polled, time_polled, work_of, found_both, BeginsBehind, BeginsAt, Walking, Kind, Callback, Code, next, []}
use Rattle.uv_records.specs.Handles as records
use Rattle.uv_records.specs.Slots as slots
use Rattle.uv_model.specs.declared.place.Place.TheVariants.{Running}
use Rattle.uv_model.specs.declared.place.Stage.TheVariants.{Entry}
use Rattle.uv_model.specs.Ops as ops
use Rattle.uv_model.specs.Next as step
use Rattle.uv_order.proofs.OpCases.{io_kind}
use Rattle.uv_order.proofs.Asked.{FrontRequest, request_front, TakesFront, takes_front, RunsWork, runs_work}

-- ---- fronts of lists

-- the front of a list, with what is behind it
pub record FrontOf (s : State) (ids : List Id) (t : Id × HandleRecord) : Type 0 where
  pub are : ids ≡ t.0 ∷ drop 1 ids
  pub holds : handle s t.0 ≡ Some t.1

pub front_of : (s : State) (ids : List Id) (t : Id × HandleRecord) → front s ids ≡ Some t → FrontOf s ids t
front_of s ids t e = grind arith

pub record FirstOf (s : State) (ts : List (Due × Id)) (t : Id × HandleRecord) : Type 0 where
  pub key : Due
  pub are : ts ≡ (key, t.0) ∷ drop 1 ts
  pub due : nat_le key.at s.time ≡ true
  pub holds : handle s t.0 ≡ Some t.1

pub first_of : (s : State) (ts : List (Due × Id)) (t : Id × HandleRecord) → first_due s ts ≡ Some t → FirstOf s ts t
first_of s ts t e = grind arith

-- ---- what a step does

-- the line tells of no op, no callback and no event from outside but the clock's
pub data IsStill : Option Seen → Type 0 where
  unseen : IsStill None
  section : (word : Phase) → IsStill (Some (Seen.Section word))
  poll : (timeout : Option ℕ) → IsStill (Some (Seen.Poll timeout))
  runs : (mode : Mode) → IsStill (Some (Seen.Run mode))
  end : (alive : Bool) → IsStill (Some (Seen.End alive))
  tick : (ms : ℕ) → IsStill (Some (Seen.Tick ms))

-- the section of this word has no list that callbacks of handles are called by in their turn
abbrev pub IsUnlisted : Phase → Type 0
IsUnlisted Phase.Idle = ⊥
IsUnlisted Phase.Prepare = ⊥
IsUnlisted Phase.Check = ⊥
IsUnlisted Phase.Closing = ⊥
IsUnlisted word = Unit {0}

-- nor does one begin that has
abbrev pub BeginsNoList : Option Seen → Type 0
BeginsNoList (Some (Seen.Section word)) = IsUnlisted word
BeginsNoList l = Unit {0}

-- only the place and the times change
abbrev pub timed : State → Place → ℕ → ℕ → Bool → Bool → State
timed s x time clock stop idled = record s { place = x; time = time; clock = clock; stop_flag = stop; idled = idled }

abbrev pub IsSync : WatcherKind → Type 0
IsSync WatcherKind.Async = ⊥
IsSync q = Unit {0}

pub data Did (p : Program) (s : State) : Next → Type 0 where
  refused : (why : Why) → Did p s (Refuses why)
  still : (x : Place) (time clock : ℕ) (stop idled : Bool) (l : Option Seen) → IsStill l → BeginsNoList l
      → Did p s (Moves (timed s x time clock stop idled) l)
  -- an op of the script is done
  op : (x : Place) (at : Site) (o : Op) → op_at p at ≡ Some o
      → Did p s (Moves (record (do_op s o).state { place = x }) (Some (Seen.Op at (do_op s o).answer)))
  -- a section begins
  begun : (run : Run) (q : WatcherKind) → (watched s q).yet ≡ [] → Did p s (step.begin_walk s run q)
  begun_closing : (run : Run) → s.closing.yet ≡ [] → Did p s (step.begin_closing s run)
  -- that of the requests that are done, with the time at which the poll is left
  begun_done : (run : Run) (time : ℕ) → s.done.yet ≡ [] → Did p s (step.begin_done (record s { time = time }) run)
  -- a timer is collected, one is called, from the ready list or straight from the order of timers
  collected : (run : Run) (part : TimersOf) (t : Id × HandleRecord) → FirstOf s s.timers t
      → Did p s (Moves (step.at (step.collected s t.0 t.1) run (Timers part Collecting)) None)
  fired : (run : Run) (t : Id × HandleRecord) → FrontOf s s.ready t
      → Did p s (call p (restarted (record s { ready = drop 1 s.ready }) t.0 t.1) run t.0 t.1.name)
  called_due : (run : Run) (t : Id × HandleRecord) → FirstOf s s.timers t
      → Did p s (call p (restarted (stopped s t.0 t.1) t.0 t.1) run t.0 t.1.name)
  -- a watcher is called; an async handle is passed by, one is called
  walked : (run : Run) (q : WatcherKind) (t : Id × HandleRecord) → IsSync q → FrontOf s (watched s q).yet t
      → Did p s (call p (front_moved s q t.0) run t.0 t.1.name)
  passed : (run : Run) (t : Id × HandleRecord) → FrontOf s s.watchers.async.yet t → t.1.pending ≡ false
      → Did p s (Moves (step.at (front_moved s WatcherKind.Async t.0) run (Walking WatcherKind.Async)) None)
  woken : (run : Run) (t : Id × HandleRecord) → FrontOf s s.watchers.async.yet t → t.1.pending ≡ true
      → Did p s (call p (with_handle (front_moved s WatcherKind.Async t.0) t.0 (records.woken t.1)) run t.0 t.1.name)
  -- an active handle of I/O is called, in the poll with the time that it is left at
  answered : (run : Run) (time : ℕ) (v : Var) (t : Id × HandleRecord) → live_handle s v ≡ Ok t → t.1.kind ≡ Kind.Io → t.1.active ≡ true
      → Did p s (calls p (record s { time = time }) run Callback.Handle v (Seen.Io v t.0))
  -- a slot is freed, and its close or after callback begins
  closed : (run : Run) (t : Id × HandleRecord) → FrontOf s s.closing.yet t
      → Did p s (calls p (record s {
        arena = slots.freed (arena_size p).last_generation t.0 s.arena;
        closing = record s.closing { yet = drop 1 s.closing.yet };
      }) run Callback.Close t.1.name (Seen.Closed t.1.name t.0))
  ended : (run : Run) (t : Id × Request) → FrontRequest s s.done.yet t
      → Did p s (calls p (record s {
        arena = slots.freed (arena_size p).last_generation t.0 s.arena;
        done = record s.done { yet = drop 1 s.done.yet };
      }) run Callback.After t.1.name (Seen.After (digest_in t.1.outcome) t.1.name t.0))
  -- a worker takes a request, and finishes one
  taken : (n : ℕ) (t : Id × Request) → TakesFront s n t → Did p s (step.take s n (Ok t))
  finished : (n : ℕ) (t : Id × Request) → RunsWork s n t → Did p s (step.finish s n (Ok t))
  -- from outside
  sent : (v : Var) → Did p s (Moves (ops.send s (live_handle s v)).state (Some (Seen.Send v (ops.send s (live_handle s v)).code)))
  cancelled : (v : Var) → Did p s (Moves (ops.cancel s (live_request s v)).state (Some (Seen.Cancel v (ops.cancel s (live_request s v)).answer)))

-- ---- each step does one of these

turn_did : (p : Program) (s : State) (run : Run) (turn : Turn) → Did p s (step.turns (order_of p) s run turn)
turn_did p s run turn = by (step.way (order_of p) run.mode (goes s) turn) where
  by : (w : Way) → Did p s (step.goes_by (order_of p) s run w)
  by (ToTimers part) = still _ _ s.clock s.stop_flag _ _ (section _) tt
  by ToPending = still _ s.time s.clock s.stop_flag _ _ (section _) tt
  by ToEnd = still _ s.time s.clock false s.idled _ (end _) tt

fire_did : (p : Program) (s : State) (run : Run) (part : TimersOf) → Did p s (step.fire p s run part)
fire_did p s run part = found_both (front s s.ready) _ _ (Did p s)
    (λ t e. fired (record run { stage = Timers part Firing }) t (front_of s s.ready t e))
    (λ e. turn_did p s run (Behind part))

call_due_did : (p : Program) (s : State) (run : Run) (part : TimersOf) → Did p s (step.call_due p s run part)
call_due_did p s run part = found_both (first_due s s.timers) _ _ (Did p s)
    (λ t e. called_due (record run { stage = Timers part Collecting }) t (first_of s s.timers t e))
    (λ e. turn_did p s run (Behind part))

walk_did : (p : Program) (s : State) (run : Run) (q : WatcherKind) → IsSync q → Did p s (step.after_walk s run q) → Did p s (step.walk p s run q)
walk_did p s run q sync over = found_both (front s (watched s q).yet) _ _ (Did p s)
    (λ t e. walked run q t sync (front_of s (watched s q).yet t e)) (λ e. over)

stage_did : (p : Program) (s : State) (run : Run) (x : Stage) → BeginsBehind x s → Did p s (step.stage_step p s run x)
stage_did p s run Pending r = begun run WatcherKind.Idle r
stage_did p s run (Walking WatcherKind.Idle) r = walk_did p s run WatcherKind.Idle tt (begun run WatcherKind.Prepare r)
stage_did p s run (Walking WatcherKind.Prepare) r =
    walk_did p s run WatcherKind.Prepare tt (still _ s.time s.clock s.stop_flag s.idled _ (poll _) tt)
stage_did p s run (Poll deadline) r = cond_both (may_leave s deadline) _ _ (Did p s) (λ h. begun_done run s.clock r) (λ h. refused Blocked)
stage_did p s run (Polled true) r = begun_done run s.time r
stage_did p s run (Polled false) r = still _ s.time s.clock s.stop_flag s.idled _ (section _) tt
stage_did p s run Done r = found_both (front_request s s.done.yet) _ _ (Did p s)
    (λ t e. ended run t (request_front s s.done.yet t e)) (λ e. begun run WatcherKind.Async r)
stage_did p s run DoneUnwoken r = still _ s.time s.clock s.stop_flag s.idled _ (section _) tt
stage_did p s run (Walking WatcherKind.Async) r = found_both (front s s.watchers.async.yet) _ _ (Did p s)
    (λ t e. let f = front_of s s.watchers.async.yet t e in cond_both t.1.pending _ _ (Did p s) (λ on. woken run t f on) (λ off. passed run t f off))
    (λ e. begun run WatcherKind.Check r)
stage_did p s run (Walking WatcherKind.Check) r = walk_did p s run WatcherKind.Check tt (begun_closing run r)
stage_did p s run Closing r = found_both (front s s.closing.yet) _ _ (Did p s)
    (λ t e. closed run t (front_of s s.closing.yet t e)) (λ e. turn_did p s run BehindClosing)
stage_did p s run (Timers part Collecting) r = cond_both (from_heap p) _ _ (Did p s) (λ heap. call_due_did p s run part)
    (λ ready. found_both (first_due s s.timers) _ _ (Did p s)
    (λ t e. collected run part t (first_of s s.timers t e)) (λ e. fire_did p s run part))
stage_did p s run each r = search (turn_did, walk_did, cond_both, found_both, request_front, front_of, call_due_did, first_of, fire_did)

body_did : (p : Program) (s : State) (run : Run) (body : Body) (x : Option CallbackLine) →
    slice_get (lines_in p body.callback body.name) body.next ≡ x → Did p s (step.body_step p s run body x)
body_did p s run body None e = still _ s.time s.clock s.stop_flag s.idled None unseen tt
body_did p s run body (Some line) e =
    op _ (Site.In body.callback body.name body.next) line.op (ap (option_map (λ (x : CallbackLine). x.op)) e)

main_did : (p : Program) (s : State) (i : ℕ) (x : Option MainOp) → slice_get p.main i ≡ x → Did p s (step.main_step (order_of p) s i x)
main_did p s i None e = refused Ended
main_did p s i (Some (MainOp.Run m)) e = cond_both (step.refreshes (order_of p) m) (refreshed s) s
    (λ (t : State). Did p s (Moves (record t {
      place = Running (record { mode = m; line = i; stage = Entry; body = None });
    }) (Some (Seen.Run m))))
    (λ h. still _ s.clock s.clock s.stop_flag s.idled _ (runs m) tt) (λ h. still _ s.time s.clock s.stop_flag s.idled _ (runs m) tt)
main_did p s i (Some (MainOp.Op o)) e = op _ (Site.Main i) o (ap main_op e)

take_did : (p : Program) (s : State) (n : ℕ) (t : Result (Id × Request) Why) → next_work s (slice_get s.running n) ≡ t → Did p s (step.take s n t)
take_did p s n t e = grind (arith, refused, taken, takes_front)

finish_did : (p : Program) (s : State) (n : ℕ) (t : Result (Id × Request) Why) → work_of s (slice_get s.running n) ≡ t → Did p s (step.finish s n t)
finish_did p s n (Err why) e = refused why
finish_did p s n (Ok t) e = finished n t (runs_work s n t e)

io_did : (p : Program) (s : State) (v : Var) → Did p s (step.call_io p s v (io_run p s s.place) (io_handle (live_handle s v)))
io_did p s v = by (io_run p s s.place) (live_handle s v) refl where
  by : (run : Option Run) (t : Result (Id × HandleRecord) Code) → live_handle s v ≡ t → Did p s (step.call_io p s v run (io_handle t))
  by None t e = refused Blocked
  by (Some run) (Err code) e = refused Blocked
  by (Some run) (Ok t) e = cond_both (is_io t.1.kind && t.1.active) _ _ (λ (id : Option Id). Did p s (step.call_io p s v (Some run) id))
      (λ on. let parts = and_parts (is_io t.1.kind) t.1.active on in
      answered (record run { stage = stage_polled s run.stage }) (time_polled s run.stage) v t e (io_kind t.1.kind parts.0) parts.1)
      (λ off. refused Blocked)

pub did : (p : Program) (s : State) (e : Event) → BeginsAt s.place s → Did p s (next p s e)
unfolding next
did p s (Cancel v) r = cond_both (nat_lt v.0 (length s.names)) _ _ (Did p s) (λ h. cancelled v) (λ h. refused Range)
did p s (Send v) r = cond_both (nat_lt v.0 (length s.names)) _ _ (Did p s) (λ h. sent v) (λ h. refused Range)
did p s (Tick ms) r = cond_both (nat_le (s.clock + ms) 4611686018427387904) _ _ (Did p s)
    (λ h. still s.place s.time (s.clock + ms) s.stop_flag s.idled _ (tick ms) tt) (λ h. refused Range)
did p s each r = grind (arith, main_did, stage_did, body_did, take_did, finish_did, cond_both, refused, io_did, still)

-- A step without a line leaves fewer such steps to take.
use Rattle.uv_order.proofs.Names.{arith, ℕ, ◌+◌, true, false, Option, Some, None, length, slice_get, cond_both, Id, Event, Loop, Take, Finish, Cancel, Send, Io, Tick, Result, Ok, Err, Why, WatcherKind, CallbackLine, MainOp, Program, order_of, from_heap, lines_in, Request, Body, Place, Run, Stage, Pending, Poll, Polled, Done, DoneUnwoken, Closing, Timers, Collecting, Firing, TimersOf, Turn, AtEntry, Behind, BehindClosing, Way, ToTimers, ToPending, ToEnd, State, front, front_request, watched, may_leave, first_due, next, next_work, work_of, io_handle, io_run, live_handle, Walking, nat_le, nat_lt, goes, found_both, Main, quiet, quiet_at, body_left, Lessens}
use Rattle.uv_model.specs.declared.place.Place.TheVariants.{Running}
use Rattle.uv_model.specs.declared.place.Stage.TheVariants.{Entry}
use Rattle.uv_model.specs.Next as step
use Rattle.uv_order.proofs.Did.{front_of, first_of}

-- those that are left beside a body's end
abbrev left : State → ℕ
left s = length s.timers + length s.watchers.async.yet

turn_on : (p : Program) (s : State) (run : Run) (turn : Turn) (n : ℕ) → Lessens n (step.turns (order_of p) s run turn)
turn_on p s run turn n = by (step.way (order_of p) run.mode (goes s) turn) where
  by : (w : Way) → Lessens n (step.goes_by (order_of p) s run w)
  by (ToTimers part) = tt
  by ToPending = tt
  by ToEnd = tt

fire_on : (p : Program) (s : State) (run : Run) (part : TimersOf) (n : ℕ) → Lessens n (step.fire p s run part)
fire_on p s run part n = found_both (front s s.ready) _ _ (Lessens n) (λ t e. tt) (λ e. turn_on p s run (Behind part) n)

collect_on : (p : Program) (s : State) (run : Run) (part : TimersOf) → Lessens (left s + 0) (step.collect p s run part)
collect_on p s run part = found_both (first_due s s.timers) _ _ (Lessens (left s + 0))
    (λ t e. let f = first_of s s.timers t e in grind (arith, f.are)) (λ e. fire_on p s run part (left s + 0))

async_on : (p : Program) (s : State) (run : Run) → Lessens (left s + 0) (step.walk_async p s run)
async_on p s run = found_both (front s s.watchers.async.yet) _ _ (Lessens (left s + 0))
    (λ t e. let f = front_of s s.watchers.async.yet t e in
    cond_both t.1.pending _ _ (Lessens (left s + 0)) (λ on. tt) (λ off. grind (arith, f.are))) (λ e. tt)

walk_on : (p : Program) (s : State) (run : Run) (q : WatcherKind) (n : ℕ) → Lessens n (step.after_walk s run q) → Lessens n (step.walk p s run q)
walk_on p s run q n over = found_both (front s (watched s q).yet) _ _ (Lessens n) (λ t e. tt) (λ e. over)

stage_on : (p : Program) (s : State) (run : Run) (x : Stage) → Lessens (left s + 0) (step.stage_step p s run x)
stage_on p s run Entry = turn_on p s run AtEntry (left s + 0)
stage_on p s run Pending = tt
stage_on p s run (Walking WatcherKind.Async) = async_on p s run
stage_on p s run (Walking WatcherKind.Idle) = walk_on p s run WatcherKind.Idle (left s + 0) tt
stage_on p s run (Walking WatcherKind.Prepare) = walk_on p s run WatcherKind.Prepare (left s + 0) tt
stage_on p s run (Walking WatcherKind.Check) = walk_on p s run WatcherKind.Check (left s + 0) tt
stage_on p s run (Poll deadline) = cond_both (may_leave s deadline) _ _ (Lessens (left s + 0)) (λ h. tt) (λ h. tt)
stage_on p s run (Polled true) = tt
stage_on p s run (Polled false) = tt
stage_on p s run Done = found_both (front_request s s.done.yet) _ _ (Lessens (left s + 0)) (λ t e. tt) (λ e. tt)
stage_on p s run DoneUnwoken = tt
stage_on p s run Closing = found_both (front s s.closing.yet) _ _ (Lessens (left s + 0)) (λ t e. tt) (λ e. turn_on p s run BehindClosing (left s + 0))
stage_on p s run (Timers part Collecting) = cond_both (from_heap p) _ _ (Lessens (left s + 0))
    (λ heap. found_both (first_due s s.timers) _ _ (Lessens (left s + 0)) (λ t e. tt) (λ e. turn_on p s run (Behind part) (left s + 0)))
    (λ ready. collect_on p s run part)
stage_on p s run (Timers part Firing) = fire_on p s run part (left s + 0)

body_on : (p : Program) (s : State) (run : Run) (body : Body) (x : Option CallbackLine) → Lessens (left s + 1) (step.body_step p s run body x)
body_on p s run body None = grind arith
body_on p s run body (Some line) = tt

main_on : (p : Program) (s : State) (i : ℕ) (x : Option MainOp) (n : ℕ) → Lessens n (step.main_step (order_of p) s i x)
main_on p s i None n = tt
main_on p s i (Some (MainOp.Run m)) n = tt
main_on p s i (Some (MainOp.Op o)) n = tt

place_on : (p : Program) (s : State) (x : Place) → Lessens (left s + quiet_at x) (step.loop_step p s x)
place_on p s (Main i) = main_on p s i (slice_get p.main i) (left s + 0)
place_on p s (Running run) = by run.body where
  by : (body : Option Body) → Lessens (left s + body_left body) (step.run_step p s run body)
  by None = stage_on p s run run.stage
  by (Some body) = body_on p s run body (slice_get (lines_in p body.callback body.name) body.next)

take_on : (s : State) (k n : ℕ) (t : Result (Id × Request) Why) → Lessens n (step.take s k t)
take_on s k n (Err why) = tt
take_on s k n (Ok t) = tt

finish_on : (s : State) (k n : ℕ) (t : Result (Id × Request) Why) → Lessens n (step.finish s k t)
finish_on s k n (Err why) = tt
finish_on s k n (Ok t) = tt

io_on : (p : Program) (s : State) (v : _) (run : Option Run) (id : Option Id) (n : ℕ) → Lessens n (step.call_io p s v run id)
io_on p s v None id n = tt
io_on p s v (Some run) None n = tt
io_on p s v (Some run) (Some id) n = tt

pub gets_on : (p : Program) (s : State) (e : Event) → Lessens (quiet s) (next p s e)
unfolding next
gets_on p s Loop = place_on p s s.place
gets_on p s (Take k) = take_on s k (quiet s) (next_work s (slice_get s.running k))
gets_on p s (Finish k) = finish_on s k (quiet s) (work_of s (slice_get s.running k))
gets_on p s (Cancel v) = cond_both (nat_lt v.0 (length s.names)) _ _ (Lessens (quiet s)) (λ h. tt) (λ h. tt)
gets_on p s (Send v) = cond_both (nat_lt v.0 (length s.names)) _ _ (Lessens (quiet s)) (λ h. tt) (λ h. tt)
gets_on p s (Io v) = cond_both (nat_lt v.0 (length s.names)) _ _ (Lessens (quiet s))
    (λ h. io_on p s v (io_run p s s.place) (io_handle (live_handle s v)) (quiet s)) (λ h. tt)
gets_on p s (Tick ms) = cond_both (nat_le (s.clock + ms) 4611686018427387904) _ _ (Lessens (quiet s)) (λ h. tt) (λ h. tt)

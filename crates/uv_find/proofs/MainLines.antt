-- The main program never goes back: a step leads to no line before the one at which it stood.
use Rattle.uv_find.proofs.Names.{◌≡◌, ℕ, ◌+◌, ◌≤◌, Bool, Option, Result, slice_get, nat_le, nat_lt, length, if◌then◌else◌, sym, subst, arith, Code, Event, Loop, Take, Finish, Cancel, Send, Io, Tick, Why, Id, Var, Order, HandleRecord, WatcherKind, Program, order_of, from_heap, lines_in, CallbackLine, MainOp, Request, line_of, LATEST, State, front, front_request, live_handle, live_request, Next, Moves, Refuses, goes, way, first_due, may_leave, io_run, io_handle, Body, Run, Stage, Entry, Pending, Walking, Poll, Polled, Done, DoneUnwoken, Closing, Timers, TimersOf, Timing, Turn, AtEntry, Behind, BehindClosing, Way, found_both}
use Rattle.uv_model.specs.Ops as ops
use Rattle.uv_model.specs.Next as steps
use Rattle.uv_model.specs.Next.{next}
use Rattle.uv_model.specs.declared.place.Place.{Place}

abbrev pub StaysPast : ℕ → Next → Type 0
StaysPast n (Moves t line) = n ≤ line_of t.place
StaysPast n (Refuses why) = Unit {0}

either : (n : ℕ) (b : Bool) (x y : Next) → StaysPast n x → StaysPast n y → StaysPast n (if b then x else y)
either n b x y h k = grind arith

module _ (p : Program) (n : ℕ) where
  goes_past : (o : Order) (s : State) (run : Run) (w : Way) → n ≤ run.line → StaysPast n (steps.goes_by o s run w)
  goes_past o s run each l = grind arith

  turns_past : (s : State) (run : Run) (turn : Turn) → n ≤ run.line → StaysPast n (steps.turns (order_of p) s run turn)
  turns_past s run turn l = goes_past (order_of p) s run (way (order_of p) run.mode (goes s) turn) l

  fire_past : (s : State) (run : Run) (part : TimersOf) → n ≤ run.line → StaysPast n (steps.fire p s run part)
  fire_past s run part l = found_both (front s s.ready) _ _ (StaysPast n) (λ t e. l) (λ e. turns_past s run (Behind part) l)

  call_due_past : (s : State) (run : Run) (part : TimersOf) → n ≤ run.line → StaysPast n (steps.call_due p s run part)
  call_due_past s run part l = found_both (first_due s s.timers) _ _ (StaysPast n) (λ t e. l) (λ e. turns_past s run (Behind part) l)

  collect_past : (s : State) (run : Run) (part : TimersOf) → n ≤ run.line → StaysPast n (steps.collect p s run part)
  collect_past s run part l = found_both (first_due s s.timers) _ _ (StaysPast n) (λ t e. l) (λ e. fire_past s run part l)

  timers_past : (s : State) (run : Run) (part : TimersOf) (timing : Timing) → n ≤ run.line → StaysPast n (steps.timers p s run part timing)
  timers_past s run part timing l = grind (arith, either, from_heap, call_due_past, collect_past, fire_past)

  in_walk_past : (s : State) (run : Run) (kind : WatcherKind) → n ≤ run.line → StaysPast n (steps.in_walk p s run kind)
  in_walk_past s run each l = grind arith

  close_past : (s : State) (run : Run) → n ≤ run.line → StaysPast n (steps.close_front p s run)
  close_past s run l = found_both (front s s.closing.yet) _ _ (StaysPast n) (λ t e. l) (λ e. turns_past s run BehindClosing l)

  collect_request_past : (s : State) (run : Run) → n ≤ run.line → StaysPast n (steps.collect_request p s run)
  collect_request_past s run l = found_both (front_request s s.done.yet) _ _ (StaysPast n) (λ t e. l) (λ e. l)

  leave_past : (s : State) (run : Run) (woken : Bool) → n ≤ run.line → StaysPast n (steps.leave_polled s run woken)
  leave_past s run woken l = grind arith

  stage_past : (s : State) (run : Run) (stage : Stage) → n ≤ run.line → StaysPast n (steps.stage_step p s run stage)
  stage_past s run Entry l = turns_past s run AtEntry l
  stage_past s run Pending l = l
  stage_past s run (Walking kind) l = in_walk_past s run kind l
  stage_past s run (Poll deadline) l = either n (may_leave s deadline) _ _ l tt
  stage_past s run (Polled woken) l = leave_past s run woken l
  stage_past s run Done l = collect_request_past s run l
  stage_past s run DoneUnwoken l = l
  stage_past s run Closing l = close_past s run l
  stage_past s run (Timers part timing) l = timers_past s run part timing l

  body_past : (s : State) (run : Run) (body : Body) (o : Option CallbackLine) → n ≤ run.line → StaysPast n (steps.body_step p s run body o)
  body_past s run body o l = grind arith

  run_past : (s : State) (run : Run) (o : Option Body) → n ≤ run.line → StaysPast n (steps.run_step p s run o)
  run_past s run o l = grind (arith, stage_past, body_past, slice_get, lines_in)

  main_past : (o : Order) (s : State) (line : ℕ) (op : Option MainOp) → n ≤ line → StaysPast n (steps.main_step o s line op)
  main_past o s line each l = grind arith

  loop_past : (s : State) (place : Place) → n ≤ line_of place → StaysPast n (steps.loop_step p s place)
  loop_past s place l = grind (arith, main_past, order_of, slice_get, run_past)

  -- ---- from outside

  sent_place : (s : State) (r : Result (Id × HandleRecord) Code) → (ops.send s r).state.place ≡ s.place
  sent_place s r = grind arith

  cancelled_place : (s : State) (r : Result (Id × Request) Code) → (ops.cancel s r).state.place ≡ s.place
  cancelled_place s r = grind arith

  io_past : (s : State) (v : Var) (place : Place) (o : Option Id) → n ≤ line_of place → StaysPast n (steps.call_io p s v (io_run p s place) o)
  io_past s v place o l = grind arith

  take_past : (s : State) (k : ℕ) (r : Result (Id × Request) Why) → n ≤ line_of s.place → StaysPast n (steps.take s k r)
  take_past s k r l = grind arith

  finish_past : (s : State) (k : ℕ) (r : Result (Id × Request) Why) → n ≤ line_of s.place → StaysPast n (steps.finish s k r)
  finish_past s k r l = grind arith

  pub next_past : (s : State) (e : Event) → n ≤ line_of s.place → StaysPast n (next p s e)
  unfolding next
  next_past s Loop l = loop_past s s.place l
  next_past s (Take k) l = take_past s k (steps.next_work s (slice_get s.running k)) l
  next_past s (Finish k) l = finish_past s k (steps.work_of s (slice_get s.running k)) l
  next_past s (Cancel v) l =
      either n (nat_lt v.0 (length s.names)) _ _ (subst (λ q. n ≤ line_of q) (sym (cancelled_place s (live_request s v))) l) tt
  next_past s (Send v) l =
      either n (nat_lt v.0 (length s.names)) _ _ (subst (λ q. n ≤ line_of q) (sym (sent_place s (live_handle s v))) l) tt
  next_past s (Io v) l = either n (nat_lt v.0 (length s.names)) _ _ (io_past s v s.place (io_handle (live_handle s v)) l) tt
  next_past s (Tick ms) l = either n (nat_le (s.clock + ms) LATEST) _ _ l tt

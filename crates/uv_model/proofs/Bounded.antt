-- A state's numbers are no larger than the number of its steps, and its times no later than the clock's limit.
use Rattle.uv_model.proofs.Names.{◌≡◌, ℕ, zero, suc, ◌+◌, ◌≤◌, ◌^◌, List, [], ◌∷◌, ◌++◌, length, drop, Bool, true, false, Option, Some, None, if◌then◌else◌, nat_le, nat_lt, ◌==◌, option_and_then, Result, Ok, Err, slice_get, slice_set, refl, arith, subst, replicate, add-zero, zero-add, elements, list_any, cond_both, none-some, same_Some, sym, ◌&&◌, nat_tests, Id, Var, Due, Order, V144, V145, Kind, Event, Loop, Take, Finish, Cancel, Send, Io, Tick, Op, MainOp, CallbackLine, Task, Program, arena_size, order_of, from_heap, has_io, text_of, Outcome, Finished, Cancelled, Code, Why, IdleWorker, Seen, Callback, HandleRecord, Slot, WatcherKind, inited, is_timer, is_async, activated, referenced_as, repeating, watcher_kind, start_timer_refusal, start_watcher_refusal, stop_refusal, again_refusal, timer_refusal, close_refusal, no_refusal, send_refusal, only_if, invalid_if, is_startable, Slots, taken, taken_from, freed, next_free, Walk, with_first, with_last, all_yet, Content, Calls, Named, Body, Run, Stage, Entry, Pending, Walking, Poll, Polled, Done, DoneUnwoken, Closing, Timers, TimersOf, Turn, AtEntry, Behind, BehindClosing, Way, ToTimers, ToPending, ToEnd, Timing, Collecting, Firing, Place, Main, Running, Request, found_or, same_id, without_id, queued, digest_in, handle_in, State, fresh, named, handle, with_handle, request, with_named, with_id, live, live_handle, live_request, front, front_request, watched, with_watched, refreshed, unbound, counted, count_of, taken_off, stopped, started, restarted, do_op, refuses, Next, Moves, Refuses, loop_step, main_step, run_step, body_step, stage_step, tick, sent_to, next_work, finish, work_of, cancels, begin_done, leave_polled, collect_request, timers, call_due, io, io_run, io_handle, call_io, takes_io, stage_polled, time_polled, collected, first_due, fire, way, time_at, idled_at, idled_then, goes_by, turns, refreshes, ends, calls, may_leave, body_from, goes, begin_walk, after_walk, front_moved, walk, walk_async, close_front, goes_on, state_of, line_of, HoldsBefore, StartsBefore, CanStep}
use Rattle.uv_ids.specs.declared.phase.Kind.TheVariants as kind
use Rattle.uv_script.specs.declared.op.Op.TheVariants as op
use Rattle.uv_script.specs.declared.op.MainOp.TheVariants as main
use Rattle.uv_work.specs.Digests.{digest_of}
use Rattle.uv_ids.specs.declared.seen.Seen.TheVariants as seen
use Rattle.uv_ids.specs.declared.seen.Callback.TheVariants as callback
use Rattle.uv_records.specs.declared.lists.WatcherKind.TheVariants as watcher
use Rattle.uv_records.specs.Handles as records
use Rattle.uv_records.specs.Slots as slots
use Rattle.uv_work.specs.declared.content.Content.TheVariants as content
use Rattle.uv_model.specs.declared.place.TimersOf.TheVariants as timers_of
use Rattle.uv_model.specs.Ops as ops
use Rattle.uv_model.specs.Next.{next, take}
use Rattle.uv_model.specs.After.{after}
use Rattle.uv_model.proofs.Found.{found_both}
use Rattle.uv_model.proofs.Counting.{AreUpTo, Counts, Drawn, Freed, IsBounded, StaysBounded, if_keeps, drawn_set, drawn_push, freed_more, freed_set, freed_push, slot_freed, counts_at, IsHeld, LiveBefore, handle_before, RequestBefore, request_before, NamedBefore, live_before, AskedBefore, asked_before, more, placed, renamed, listed, off_bounded, kept_in, requested, pooled, rested_in, at_clock, flagged, watched_bounded, stopped_bounded, started_bounded}

-- ---- the ops

-- a handle that is made is no active timer
inited_before : (n : ℕ) (v : Var) (kind : Kind) → StartsBefore n (inited v kind)
inited_before n v kind = grind arith

taken_drawn : (n : ℕ) (free : List ℕ) (id : Id) (x : Content) (s : Slots Content) → Drawn n s.slots → HoldsBefore n (handle_in (Some x)) →
    Drawn n (taken_from free id x s).slots
taken_drawn n [] id x s h b = drawn_push n s.slots _ h b
taken_drawn n (i ∷ is) id x s h b = drawn_set n s.slots id.slot _ h b

taken_freed : (n : ℕ) (free : List ℕ) (id : Id) (x : Content) (s : Slots Content) → Freed n s.slots → id.generation ≤ n →
    Freed n (taken_from free id x s).slots
taken_freed n free id x s h few = grind (arith, freed_push, freed_set)

-- the slot that is taken next was freed as often as its id says
next_freed : (n : ℕ) (all : List (Slot Content)) (unused : ℕ) (free : List ℕ) (id : Id) → Freed n all → slots.next_id all unused free ≡ Some id →
    id.generation ≤ n
next_freed n all unused (i ∷ is) id h e = at (slice_get all i) refl e where
  at : (x : Option (Slot Content)) → slice_get all i ≡ x → option_and_then (λ slot. Some (slots.id_of i slot)) x ≡ Some id → id.generation ≤ n
  at None f g = cc g
  at (Some slot) f g = subst (λ (j : Id). j.generation ≤ n) (same_Some _ _ g) (slot_freed n all i slot f h)
next_freed n all each e3 id h e = grind arith

-- a slot that is taken
wider : (n : ℕ) (s : State) (x : Content) (id : Id) → IsBounded n s → HoldsBefore s.next_start (handle_in (Some x)) → next_free s.arena ≡ Some id →
    IsBounded (suc n) (record s { arena = taken id x s.arena })
wider n s x id h b e = search (more, taken_drawn, taken_freed, next_freed)

bound_bounded : (n : ℕ) (s : State) (v : Var) (id : Id) → IsBounded n s → IsBounded n (ops.bound_to s v id)
bound_bounded n s v id h = renamed n s v (record (named s v) { id = Some id }) h (counts_at n s v h.counts)

new_bounded : (n : ℕ) (s : State) (v : Var) (kind : Kind) (id : Id) → IsBounded n s → next_free s.arena ≡ Some id →
    IsBounded (suc n) (ops.with_new s v kind id)
new_bounded n s v kind id h e =
    let x = content.Handle (inited v kind) in
    let u = record s { arena = taken id x s.arena } in
    let wide = wider n s x id h (inited_before s.next_start v kind) e in
    bound_bounded (suc n) (ops.listed_last u kind id) v id
    (if_keeps (IsBounded (suc n)) (is_async kind) _ u (watched_bounded (suc n) u watcher.Async _ wide) wide)

queued_bounded : (n : ℕ) (s : State) (v : Var) (task : Task) (id : Id) → IsBounded n s → next_free s.arena ≡ Some id →
    IsBounded (suc n) (ops.with_queued s v task id)
queued_bounded n s v task id h e =
    let x = content.Request (queued v task) in
    let u = record s { arena = taken id x s.arena } in
    let waiting = s.waiting ++ id ∷ [] in
    bound_bounded (suc n) (record u { waiting = waiting }) v id (pooled (suc n) u waiting s.running s.done (wider n s x id h tt e))

make_bounded : (n : ℕ) (s : State) (t : Option (Id × Content)) (made : Id → State) → IsBounded n s →
    ((id : Id) → next_free s.arena ≡ Some id → IsBounded (suc n) (made id)) → IsBounded (suc n) (ops.make s t made).state
make_bounded n s (Some t) made h k = more n s h
make_bounded n s None made h k = found_both (next_free s.arena) _ _ (λ (d : ops.Done). IsBounded (suc n) d.state) k (λ e. more n s h)

ended_bounded : (n : ℕ) (s : State) (id : Id) (r : Request) (outcome : Outcome) → IsBounded n s → id.generation ≤ n →
    IsBounded n (ops.ended s id r outcome)
ended_bounded n s id r outcome h few = search (requested, pooled)

cancel_bounded : (n : ℕ) (s : State) (t : Result (Id × Request) Code) → AskedBefore n t → IsBounded n s → IsBounded (suc n) (ops.cancel s t).state
cancel_bounded n s (Err code) few h = more n s h
cancel_bounded n s (Ok t) few h = if_keeps (λ (d : ops.Done). IsBounded (suc n) d.state) (list_any (same_id t.0) s.waiting) _ _
    (search (more, ended_bounded, pooled))
    (more n s h)

on_handle_bounded : (n : ℕ) (s : State) (v : Var) (why : HandleRecord → Option Code) (f : Id → HandleRecord → ops.Done) → IsBounded n s →
    ((id : Id) (x : HandleRecord) → IsHeld s.next_start n id x → why x ≡ None → IsBounded (suc n) (f id x).state) →
    IsBounded (suc n) (ops.on_handle s (live_handle s v) why f).state
on_handle_bounded n s v why f h k = at (live_handle s v) (live_before n s v h) where
  at : (t : Result (Id × HandleRecord) Code) → NamedBefore s.next_start n t → IsBounded (suc n) (ops.on_handle s t why f).state
  at t l = grind arith

start_bounded : (n : ℕ) (s : State) (timeout repeat : ℕ) (id : Id) (x : HandleRecord) → IsBounded n s → id.generation ≤ n →
    IsBounded (suc n) (ops.start s timeout repeat id x).state
start_bounded n s timeout repeat id x h few = started_bounded n (stopped s id x) id x timeout repeat (stopped_bounded n s id x h few) few

restarted_bounded : (n : ℕ) (s : State) (id : Id) (x : HandleRecord) → IsBounded n s → id.generation ≤ n → IsBounded (suc n) (restarted s id x)
restarted_bounded n s id x h few = if_keeps (IsBounded (suc n)) (x.repeat == 0) s (started s id x x.repeat x.repeat) (more n s h)
    (started_bounded n s id x x.repeat x.repeat h few)

again_bounded : (n : ℕ) (s : State) (id : Id) (x : HandleRecord) → IsBounded n s → id.generation ≤ n → IsBounded (suc n) (ops.again s id x).state
again_bounded n s id x h few = restarted_bounded n (stopped s id x) id x (stopped_bounded n s id x h few) few

set_repeat_bounded : (n : ℕ) (s : State) (repeat : ℕ) (id : Id) (x : HandleRecord) → IsBounded n s → IsHeld s.next_start n id x →
    IsBounded (suc n) (ops.set_repeat s repeat id x).state
set_repeat_bounded n s repeat id x h b = search (more, kept_in)

-- `start v` starts no timer
no_timer_starts : (kind : Kind) (closing : Bool) → only_if (is_startable kind) (invalid_if closing) ≡ None → is_timer kind ≡ true → ⊥
no_timer_starts kind closing e t = grind arith

start_watcher_bounded : (n : ℕ) (s : State) (id : Id) (x : HandleRecord) → IsBounded n s → id.generation ≤ n → start_watcher_refusal x ≡ None →
    IsBounded (suc n) (ops.start_watcher s id x).state
start_watcher_bounded n s id x h few may = if_keeps (IsBounded (suc n)) x.active s _ (more n s h)
    (found_both (watcher_kind x.kind) _ (with_handle s id (activated x)) (IsBounded (suc n)) (λ kind e. started_watcher kind e)
    (λ e. more n (with_handle s id (activated x))
    (kept_in n s id (activated x) h (record { starts = λ t a. absurd (no_timer_starts x.kind x.closing may t); freed = few }))))
  where
    started_watcher : (kind : WatcherKind) → watcher_kind x.kind ≡ Some kind → IsBounded (suc n) (ops.watcher_started s kind id x)
    started_watcher kind e =
        let t = with_watched s kind (with_first (watched s kind) id) in
        let b = watched_bounded n s kind (with_first (watched s kind) id) h in
        more n (with_handle t id (activated x))
        (kept_in n t id (activated x) b (record { starts = λ u a. absurd (grind arith); freed = few }))

set_referenced_bounded : (n : ℕ) (s : State) (flag : Bool) (id : Id) (x : HandleRecord) → IsBounded n s → IsHeld s.next_start n id x →
    IsBounded (suc n) (ops.set_referenced s flag id x).state
set_referenced_bounded n s flag id x h b = search (more, kept_in)

closed_bounded : (n : ℕ) (s : State) (id : Id) (x : HandleRecord) → IsBounded n s → id.generation ≤ n → IsBounded n (ops.closed s id x)
closed_bounded n s id x h few = search (off_bounded, rested_in)

sent_bounded : (n : ℕ) (s : State) (v : Var) → IsBounded n s → IsBounded (suc n) (ops.send s (live_handle s v)).state
sent_bounded n s v h = at (live_handle s v) (live_before n s v h) where
  at : (t : Result (Id × HandleRecord) Code) → NamedBefore s.next_start n t → IsBounded (suc n) (ops.send s t).state
  at (Err code) l = more n s h
  at (Ok t) l = found_both (send_refusal t.1) _ _ (λ (d : ops.Coded). IsBounded (suc n) d.state) (λ code e. more n s h)
      (λ e. search (more, kept_in))

op_bounded : (n : ℕ) (s : State) (x : Op) → IsBounded n s → IsBounded (suc n) (do_op s x).state
op_bounded n s (op.Start v timeout repeat) h = on_handle_bounded n s v start_timer_refusal _ h
    (λ id x b e. start_bounded n s timeout repeat id x h b.freed)
op_bounded n s (op.StartWatcher v) h = on_handle_bounded n s v start_watcher_refusal _ h (λ id x b e. start_watcher_bounded n s id x h b.freed e)
op_bounded n s (op.Stop v) h = on_handle_bounded n s v stop_refusal _ h (λ id x b e. more n (stopped s id x) (stopped_bounded n s id x h b.freed))
op_bounded n s (op.Again v) h = on_handle_bounded n s v again_refusal _ h (λ id x b e. again_bounded n s id x h b.freed)
op_bounded n s (op.Close v) h = on_handle_bounded n s v close_refusal _ h (λ id x b e. more n (ops.closed s id x) (closed_bounded n s id x h b.freed))
op_bounded n s op.CloseLoop h = if_keeps (λ (d : ops.Done). IsBounded (suc n) d.state) (ops.is_in_use s) _ _ (more n s h) (more n s h)
op_bounded n s each h =
    search (
      make_bounded,
      new_bounded,
      queued_bounded,
      cancel_bounded,
      asked_before,
      on_handle_bounded,
      start_bounded,
      start_watcher_bounded,
      more,
      stopped_bounded,
      again_bounded,
      set_repeat_bounded,
      closed_bounded,
      set_referenced_bounded,
      sent_bounded,
      flagged,
      at_clock,
      if_keeps,
    )

-- ---- the rows

run_at : (n : ℕ) (s : State) (run : Run) → IsBounded n s → run.line ≤ n → IsBounded (suc n) (record s { place = Running run })
run_at n s run h l = placed (suc n) s (Running run) (more n s h) (omega arith)

way_bounded : (n : ℕ) (o : Order) (s : State) (run : Run) (w : Way) → IsBounded n s → run.line ≤ n → StaysBounded (suc n) (goes_by o s run w)
way_bounded n o s run each h l = grind arith

turn_bounded : (n : ℕ) (o : Order) (s : State) (run : Run) (turn : Turn) → IsBounded n s → run.line ≤ n → StaysBounded (suc n) (turns o s run turn)
turn_bounded n o s run turn h l = way_bounded n o s run (way o run.mode (goes s) turn) h l

counted_up : (n : ℕ) (kind : Callback) (c : Calls) → AreUpTo n c → AreUpTo (suc n) (counted kind c)
counted_up n each c h = grind arith

calls_bounded : (p : Program) (n : ℕ) (s : State) (run : Run) (kind : Callback) (v : Var) (what : Seen) → IsBounded (suc n) s → Counts n s.names →
    run.line ≤ n → StaysBounded (suc n) (calls p s run kind v what)
calls_bounded p n s run kind v what h counts l =
    let x : Named = record (named s v) { calls = counted kind (named s v).calls } in
    let t = with_named s v x in
    placed (suc n) t (Running (record run { body = body_from p kind v (count_of kind x.calls) 0 }))
    (renamed (suc n) s v x h (counted_up n kind (named s v).calls (counts_at n s v counts))) (omega arith)

restarted_names : (n : ℕ) (s : State) (id : Id) (x : HandleRecord) → Counts n s.names → Counts n (restarted s id x).names
restarted_names n s id x h = if_keeps (λ (t : State). Counts n t.names) (x.repeat == 0) s (started s id x x.repeat x.repeat) h h

front_before : (n : ℕ) (s : State) (ids : List Id) (t : Id × HandleRecord) → front s ids ≡ Some t → IsBounded n s → IsHeld s.next_start n t.0 t.1
front_before n s [] t e h = cc e
front_before n s (id ∷ ids) t e h = subst (LiveBefore s.next_start n) e (handle_before n s id h)

request_front : (n : ℕ) (s : State) (ids : List Id) (t : Id × Request) → front_request s ids ≡ Some t → IsBounded n s → t.0.generation ≤ n
request_front n s [] t e h = cc e
request_front n s (id ∷ ids) t e h = subst (RequestBefore n) e (request_before n s id h)

fire_bounded : (p : Program) (n : ℕ) (s : State) (run : Run) (part : TimersOf) → IsBounded n s → run.line ≤ n →
    StaysBounded (suc n) (fire p s run part)
fire_bounded p n s run part h l = found_both (front s s.ready) _ _ (StaysBounded (suc n))
    (λ t e. let u = record s { ready = drop 1 s.ready } in
    let few = (front_before n s s.ready t e h).freed in
    calls_bounded p n (restarted u t.0 t.1) (record run { stage = Timers part Firing }) callback.Handle t.1.name (seen.Call t.1.name t.0)
    (restarted_bounded n u t.0 t.1 (listed n s s.timers (drop 1 s.ready) h) few) (restarted_names n u t.0 t.1 h.counts) l)
    (λ e. turn_bounded n (order_of p) s run (Behind part) h l)

collected_bounded : (n : ℕ) (s : State) (id : Id) (x : HandleRecord) → IsBounded n s → id.generation ≤ n → IsBounded n (collected s id x)
collected_bounded n s id x h few = search (rested_in, listed)

first_due_before : (n : ℕ) (s : State) (ts : List (Due × Id)) (t : Id × HandleRecord) → first_due s ts ≡ Some t → IsBounded n s →
    IsHeld s.next_start n t.0 t.1
first_due_before n s [] t e h = cc e
first_due_before n s (u ∷ ts) t e h =
    let p = chosen (nat_le u.0.at s.time) (with_id u.1 (handle s u.1)) t e in
    subst (LiveBefore s.next_start n) p (handle_before n s u.1 h)
  where
    chosen : {A : Type 0} (b : Bool) (x : Option A) (y : A) → (if b then x else None) ≡ Some y → x ≡ Some y
    chosen b x y f = grind arith

call_due_bounded : (p : Program) (n : ℕ) (s : State) (run : Run) (part : TimersOf) → IsBounded n s → run.line ≤ n →
    StaysBounded (suc n) (call_due p s run part)
call_due_bounded p n s run part h l = found_both (first_due s s.timers) _ _ (StaysBounded (suc n))
    (λ t e. let few = (first_due_before n s s.timers t e h).freed in
    let u = stopped s t.0 t.1 in
    calls_bounded p n (restarted u t.0 t.1) (record run { stage = Timers part Collecting }) callback.Handle t.1.name (seen.Call t.1.name t.0)
    (restarted_bounded n u t.0 t.1 (stopped_bounded n s t.0 t.1 h few) few) (restarted_names n u t.0 t.1 h.counts) l)
    (λ e. turn_bounded n (order_of p) s run (Behind part) h l)

timers_bounded : (p : Program) (n : ℕ) (s : State) (run : Run) (part : TimersOf) (timing : Timing) → IsBounded n s → run.line ≤ n →
    StaysBounded (suc n) (timers p s run part timing)
timers_bounded p n s run part Collecting h l = if_keeps (StaysBounded (suc n)) (from_heap p) _ _ (call_due_bounded p n s run part h l)
    (found_both (first_due s s.timers) _ _ (StaysBounded (suc n))
    (λ t e. let few = (first_due_before n s s.timers t e h).freed in
    run_at n (collected s t.0 t.1) (record run { stage = Timers part Collecting; body = None }) (collected_bounded n s t.0 t.1 h few) l)
    (λ e. fire_bounded p n s run part h l))
timers_bounded p n s run part Firing h l = fire_bounded p n s run part h l

begin_walk_bounded : (n : ℕ) (s : State) (run : Run) (kind : WatcherKind) → IsBounded n s → run.line ≤ n
    → StaysBounded (suc n) (begin_walk s run kind)
begin_walk_bounded n s run kind h l = grind arith

closing_bounded : (n : ℕ) (s : State) (w : Walk Id) → IsBounded n s → IsBounded n (record s { closing = w })
closing_bounded n s w h = assumption

after_walk_bounded : (n : ℕ) (s : State) (run : Run) (kind : WatcherKind) → IsBounded n s → run.line ≤ n
    → StaysBounded (suc n) (after_walk s run kind)
after_walk_bounded n s run each h l = grind arith

walk_bounded : (p : Program) (n : ℕ) (s : State) (run : Run) (kind : WatcherKind) → IsBounded n s → run.line ≤ n
    → StaysBounded (suc n) (walk p s run kind)
walk_bounded p n s run kind h l = found_both (front s (watched s kind).yet) _ _ (StaysBounded (suc n))
    (λ t e. search (calls_bounded, more, watched_bounded))
    (λ e. after_walk_bounded n s run kind h l)

async_bounded : (p : Program) (n : ℕ) (s : State) (run : Run) → IsBounded n s → run.line ≤ n → StaysBounded (suc n) (walk_async p s run)
async_bounded p n s run h l = found_both (front s s.watchers.async.yet) _ _ (StaysBounded (suc n))
    (λ t e. let u = front_moved s watcher.Async t.0 in
    let b = watched_bounded n s watcher.Async _ h in
    let x = with_handle u t.0 (records.woken t.1) in
    let held = front_before n s s.watchers.async.yet t e h in
    if_keeps (StaysBounded (suc n)) t.1.pending _ _
    (search (calls_bounded, more, kept_in))
    (run_at n u (record run { stage = Walking watcher.Async; body = None }) b l))
    (λ e. after_walk_bounded n s run watcher.Async h l)

freed_drawn : (n : ℕ) (last : ℕ) (id : Id) (s : Slots Content) → Drawn n s.slots → Drawn n (freed last id s).slots
freed_drawn n last id s h = if_keeps (λ (u : Slots Content). Drawn n u.slots) (id.generation == last) _ _ (drawn_set n s.slots id.slot _ h tt)
    (drawn_set n s.slots id.slot _ h tt)

freed_freed : (n : ℕ) (last : ℕ) (id : Id) (s : Slots Content) → Freed n s.slots → id.generation ≤ n → Freed (suc n) (freed last id s).slots
freed_freed n last id s h few = grind (arith, if_keeps, freed_set, freed_more)

-- a slot that is freed
released : (n : ℕ) (s : State) (last : ℕ) (id : Id) → IsBounded n s → id.generation ≤ n →
    IsBounded (suc n) (record s { arena = freed last id s.arena })
released n s last id h few =
    let m = more n s h in
    search (freed_drawn, freed_freed)

close_bounded : (p : Program) (n : ℕ) (s : State) (run : Run) → IsBounded n s → run.line ≤ n → StaysBounded (suc n) (close_front p s run)
close_bounded p n s run h l = found_both (front s s.closing.yet) _ _ (StaysBounded (suc n))
    (λ t e. let last = (arena_size p).last_generation in
    let w = record s.closing { yet = drop 1 s.closing.yet } in
    let u = record s { arena = freed last t.0 s.arena } in
    calls_bounded p n (record u { closing = w }) run callback.Close t.1.name (seen.Closed t.1.name t.0)
    (closing_bounded (suc n) u w (released n s last t.0 h (front_before n s s.closing.yet t e h).freed)) h.counts l)
    (λ e. turn_bounded n (order_of p) s run BehindClosing h l)

collect_bounded : (p : Program) (n : ℕ) (s : State) (run : Run) → IsBounded n s → run.line ≤ n → StaysBounded (suc n) (collect_request p s run)
collect_bounded p n s run h l = found_both (front_request s s.done.yet) _ _ (StaysBounded (suc n))
    (λ t e. let last = (arena_size p).last_generation in
    let w = record s.done { yet = drop 1 s.done.yet } in
    let u = record s { arena = freed last t.0 s.arena } in
    calls_bounded p n (record u { done = w }) run callback.After t.1.name (seen.After (digest_in t.1.outcome) t.1.name t.0)
    (pooled (suc n) u s.waiting s.running w (released n s last t.0 h (request_front n s s.done.yet t e h))) h.counts l)
    (λ e. begin_walk_bounded n s run watcher.Async h l)

stage_bounded : (p : Program) (n : ℕ) (s : State) (run : Run) (stage : Stage) → IsBounded n s → run.line ≤ n →
    StaysBounded (suc n) (stage_step p s run stage)
stage_bounded p n s run (Walking watcher.Async) h l = async_bounded p n s run h l
stage_bounded p n s run (Walking kind) h l = walk_bounded p n s run kind h l
stage_bounded p n s run Done h l = collect_bounded p n s run h l
stage_bounded p n s run Closing h l = close_bounded p n s run h l
stage_bounded p n s run (Timers part timing) h l = timers_bounded p n s run part timing h l
stage_bounded p n s run each h l = grind arith

body_bounded : (p : Program) (n : ℕ) (s : State) (run : Run) (body : Body) (line : Option CallbackLine) → IsBounded n s → run.line ≤ n →
    StaysBounded (suc n) (body_step p s run body line)
body_bounded p n s run body None h l = run_at n s (record run { body = None }) h l
body_bounded p n s run body (Some line) h l = placed (suc n) (do_op s line.op).state
    (Running (record run { body = body_from p body.callback body.name body.call (body.next + 1) })) (op_bounded n s line.op h) (omega arith)

main_bounded : (n : ℕ) (o : Order) (s : State) (line : ℕ) (x : Option MainOp) → IsBounded n s → line ≤ n → StaysBounded (suc n) (main_step o s line x)
main_bounded n o s line (Some (main.Op op)) h l = placed (suc n) (do_op s op).state (Main (line + 1)) (op_bounded n s op h) (omega arith)
main_bounded n o s line each h l = grind arith

run_bounded : (p : Program) (n : ℕ) (s : State) (run : Run) (body : Option Body) → IsBounded n s → run.line ≤ n →
    StaysBounded (suc n) (run_step p s run body)
run_bounded p n s run None h l = stage_bounded p n s run run.stage h l
run_bounded p n s run (Some body) h l = body_bounded p n s run body _ h l

place_bounded : (p : Program) (n : ℕ) (s : State) (place : Place) → IsBounded n s → line_of place ≤ n → StaysBounded (suc n) (loop_step p s place)
place_bounded p n s (Main line) h l = main_bounded n (order_of p) s line _ h l
place_bounded p n s (Running run) h l = run_bounded p n s run run.body h l

tick_bounded : (n : ℕ) (s : State) (ms : ℕ) → IsBounded n s → StaysBounded (suc n) (tick s ms)
tick_bounded n s ms h = grind arith

sent_to_bounded : (n : ℕ) (s : State) (v : Var) → IsBounded n s → StaysBounded (suc n) (sent_to s v)
sent_to_bounded n s v h = if_keeps (StaysBounded (suc n)) (nat_lt v.0 (length s.names)) _ _ (sent_bounded n s v h) tt

cancels_bounded : (n : ℕ) (s : State) (v : Var) → IsBounded n s → StaysBounded (suc n) (cancels s v)
cancels_bounded n s v h = if_keeps (StaysBounded (suc n)) (nat_lt v.0 (length s.names)) _ _
    (cancel_bounded n s (live_request s v) (asked_before n s v h) h) tt

-- a callback of I/O in the poll sets the time to the clock
polled_time : (n : ℕ) (s : State) (stage : Stage) → IsBounded n s → IsBounded n (record s { time = time_polled s stage })
polled_time n s stage h = grind arith

io_bounded : (p : Program) (n : ℕ) (s : State) (v : Var) → IsBounded n s → StaysBounded (suc n) (io p s v)
io_bounded p n s v h = if_keeps (StaysBounded (suc n)) (nat_lt v.0 (length s.names)) _ _
    (at (io_run p s s.place) (io_handle (live_handle s v)) (runs s.place refl)) tt
  where
    -- the run under way has the place's line
    runs : (place : Place) → place ≡ s.place → (run : Run) → io_run p s place ≡ Some run → run.line ≤ n
    runs place e run f = grind arith

    at : (r : Option Run) (id : Option Id) → ((run : Run) → r ≡ Some run → run.line ≤ n) → StaysBounded (suc n) (call_io p s v r id)
    at None id l = tt
    at (Some run) None l = tt
    at (Some run) (Some id) l =
        let u = record s { time = time_polled s run.stage } in
        calls_bounded p n u (record run { stage = stage_polled s run.stage }) callback.Handle v (seen.Io v id)
        (more n u (polled_time n s run.stage h)) h.counts (l run refl)

take_bounded : (n : ℕ) (s : State) (k : ℕ) (t : Result (Id × Request) Why) → IsBounded n s → StaysBounded (suc n) (take s k t)
take_bounded n s k t h = grind arith

finish_bounded : (n : ℕ) (s : State) (k : ℕ) (run : Option (Option Id)) → IsBounded n s → StaysBounded (suc n) (finish s k (work_of s run))
finish_bounded n s k None h = tt
finish_bounded n s k (Some None) h = tt
finish_bounded n s k (Some (Some id)) h = at (with_id id (request s id)) (request_before n s id h) where
  at : (t : Option (Id × Request)) → RequestBefore n t → StaysBounded (suc n) (finish s k (found_or t Ok (Err IdleWorker)))
  at None few = tt
  at (Some t) few = search (more, ended_bounded, pooled)

pub next_bounded : (p : Program) (n : ℕ) (s : State) (e : Event) → IsBounded n s → StaysBounded (suc n) (next p s e)
unfolding next
next_bounded p n s Loop h = place_bounded p n s s.place h h.line
next_bounded p n s (Take k) h = take_bounded n s k (next_work s (slice_get s.running k)) h
next_bounded p n s (Finish k) h = finish_bounded n s k (slice_get s.running k) h
next_bounded p n s (Cancel v) h = cancels_bounded n s v h
next_bounded p n s (Send v) h = sent_to_bounded n s v h
next_bounded p n s (Io v) h = io_bounded p n s v h
next_bounded p n s (Tick ms) h = tick_bounded n s ms h

state_bounded : (p : Program) (n : ℕ) (s : State) (e : Event) → IsBounded n s → IsBounded (suc n) (state_of s (next p s e))
state_bounded p n s e h = kept (next p s e) (next_bounded p n s e h) where
  kept : (x : Next) → StaysBounded (suc n) x → IsBounded (suc n) (state_of s x)
  kept x k = grind arith

-- ---- a list of events

goes_on_bounded : (p : Program) (n : ℕ) (s : State) (es : List Event) → IsBounded n s → IsBounded (n + length es) (goes_on p s es)
goes_on_bounded p n s [] h = rw add-zero h
goes_on_bounded p n s (e ∷ es) h =
    let t = state_of s (next p s e) in
    let same : suc n + length es ≡ n + length (e ∷ es) = omega arith in
    subst (λ (m : ℕ). IsBounded m (goes_on p t es)) same (goes_on_bounded p (suc n) t es (state_bounded p n s e h))

fresh_names : (n : ℕ) → Counts 0 (replicate n unbound)
fresh_names n = grind (arith, elements)

after_bounded : (p : Program) (es : List Event) → IsBounded (length es) (after p es)
unfolding after
after_bounded p es = rw (← zero-add (length es))
    (goes_on_bounded p 0 (fresh p) es (grind (arith, fresh_names)))

-- after few steps the numbers fit, and the timers' keys are apart
pub after_able : (p : Program) (es : List Event) → length es ≤ 2 ^ 24 → CanStep (after p es)
after_able p es l = grind (arith, after_bounded)

-- What a state keeps of its lists: as many names and workers as the script has, no more slots than a script may ask for, and a digest of
-- 32 bytes in each request that was finished. So a step that is taken can be written as a line, and so can each callback.
use Rattle.uv_text.proofs.Names.{◌≡◌, ℕ, suc, zero, ◌+◌, ◌<◌, ◌≤◌, ◌^◌, List, [], ◌∷◌, ◌++◌, length, drop, true, false, Option, Some, None, IfSome, Result, Ok, Err, All, slice_get, slice_set, option_and_then, nat_le, nat_lt, ◌==◌, ◌&&◌, refl, subst, ◌∙◌, arith, length-append, length-set, if◌then◌else◌, list_any, elements, cond_both, leb-true, ltb-true, none-some, same_Some, slice_get_within, Id, Var, Due, Kind, Code, Event, Loop, Take, Finish, Cancel, Send, Io, Tick, Why, Range, Seen, Callback, Op, MainOp, CallbackLine, Task, MOST_SLOTS, Program, arena_size, order_of, has_io, from_heap, text_of, HandleRecord, Slot, WatcherKind, inited, is_async, is_io, activated, referenced_as, repeating, watcher_kind, start_timer_refusal, start_watcher_refusal, stop_refusal, again_refusal, timer_refusal, close_refusal, no_refusal, send_refusal, Slots, held, held_in, with_held, next_unused, next_id, next_free, taken, taken_from, freed, with_first, Outcome, Open, Finished, Cancelled, IsDigest, is_digest, LATEST, Content, Named, Body, Run, Stage, Entry, Pending, Walking, Poll, Polled, Done, DoneUnwoken, Closing, Timers, TimersOf, Turn, AtEntry, Behind, BehindClosing, Way, ToTimers, ToPending, ToEnd, Timing, Collecting, Firing, Place, Main, Running, Request, CanStep, queued, digest_in, request_in, same_id, State, named, with_handle, with_id, with_named, live, live_id, as_handle, live_handle, live_request, front, front_request, watched, with_watched, refreshed, counted, stopped, taken_off, started, restarted, do_op, Next, Moves, Refuses, loop_step, main_step, run_step, body_step, stage_step, next_work, io_run, io_handle, call_io, takes_io, stage_polled, time_polled, finish, work_of, collect_request, timers, first_due, fire, way, goes_by, turns, refreshes, calls, may_leave, goes, begin_walk, after_walk, front_moved, walk, walk_async, close_front, IsMove, has_step, and_parts, if_keeps, found_both, front_freed, request_freed}
use Rattle.uv_ids.specs.declared.seen.Seen.TheVariants as seen
use Rattle.uv_ids.specs.declared.seen.Callback.TheVariants as callback
use Rattle.uv_script.specs.declared.op.Op.TheVariants as op
use Rattle.uv_script.specs.declared.op.MainOp.TheVariants as main
use Rattle.uv_records.specs.declared.lists.WatcherKind.TheVariants as watcher
use Rattle.uv_records.specs.Handles as records
use Rattle.uv_work.specs.Digests.{digest_of}
use Rattle.uv_work.specs.declared.content.Content.TheVariants as content
use Rattle.uv_model.specs.Ops as ops
use Rattle.uv_model.specs.Next.{next, take}

-- ---- what is kept

abbrev pub IsEnding : Outcome → Type 0
IsEnding Open = Unit {0}
IsEnding (Finished digest) = IsDigest digest
IsEnding Cancelled = Unit {0}

abbrev pub IsContent : Option Content → Type 0
IsContent None = Unit {0}
IsContent (Some (content.Handle h)) = Unit {0}
IsContent (Some (content.Request r)) = IsEnding r.outcome

abbrev pub AreContents : List (Slot Content) → Type 0
AreContents slots = All (λ (slot : Slot Content). IsContent slot.content) slots

pub record IsSized (names workers : ℕ) (bound : List Named) (running : List (Option Id)) (arena : Slots Content) : Type 0 where
  pub names_are : length bound ≡ names
  pub workers_are : length running ≡ workers
  pub few : length arena.slots + arena.unused ≤ MOST_SLOTS
  pub contents : AreContents arena.slots

abbrev pub Sized : ℕ → ℕ → State → Type 0
Sized m k s = IsSized m k s.names s.running s.arena

-- ---- what the lines of callbacks show

pub record IsShort (id : Id) : Type 0 where
  pub slot : id.slot < MOST_SLOTS
  pub generation : id.generation < 2 ^ 31

abbrev pub Shows : Seen → Type 0
Shows (seen.Call v id) = IsShort id
Shows (seen.Io v id) = IsShort id
Shows (seen.After digest v id) = IsShort id × IfSome digest IsDigest
Shows (seen.Closed v id) = IsShort id
Shows l = Unit {0}

abbrev pub Stays : ℕ → ℕ → Next → Type 0
Stays m k (Moves t l) = Sized m k t × IfSome l Shows
Stays m k (Refuses why) = Unit {0}

-- a step that may be taken: its worker and its name are there, and its time is within the clock's
abbrev pub CanBe : ℕ → ℕ → Event → Type 0
CanBe m k Loop = Unit {0}
CanBe m k (Take n) = n < k
CanBe m k (Finish n) = n < k
CanBe m k (Cancel v) = v.0 < m
CanBe m k (Send v) = v.0 < m
CanBe m k (Io v) = v.0 < m
CanBe m k (Tick ms) = ms ≤ LATEST

-- ---- the parts

contents_set : (slots : List (Slot Content)) (i : ℕ) (x : Slot Content) → AreContents slots → IsContent x.content → AreContents (slice_set slots i x)
contents_set slots i x h c = grind (arith, elements, h)

contents_push : (slots : List (Slot Content)) (x : Slot Content) → AreContents slots → IsContent x.content → AreContents (slots ++ x ∷ [])
contents_push slots x h c = grind (arith, elements, h)

module _ (m k : ℕ) where
  renamed : (s : State) (v : Var) (x : Named) → Sized m k s → Sized m k (with_named s v x)
  renamed s v x h = record {
    names_are = length-set s.names v.0 x ∙ h.names_are;
    workers_are = h.workers_are;
    few = h.few;
    contents = h.contents;
  }

  slot_set : (s : State) (i : ℕ) (x : Slot Content) (free : List ℕ) → IsContent x.content → Sized m k s →
      IsSized m k s.names s.running (record s.arena { slots = slice_set s.arena.slots i x; free = free })
  slot_set s i x free c h = record {
    names_are = h.names_are;
    workers_are = h.workers_are;
    few = omega (arith, length-set s.arena.slots i x, h.few);
    contents = contents_set s.arena.slots i x h.contents c;
  }

  holds : (s : State) (id : Id) (c : Content) → IsContent (Some c) → Sized m k s →
      IsSized m k s.names s.running (record s.arena { slots = with_held s.arena.slots id c })
  holds s id c is h = slot_set s id.slot (record { generation = id.generation; content = Some c }) s.arena.free is h

  handled : (s : State) (id : Id) (x : HandleRecord) → Sized m k s → Sized m k (with_handle s id x)
  handled s id x h = holds s id (content.Handle x) tt h

  runs : (s : State) (n : ℕ) (run : Option Id) → Sized m k s → IsSized m k s.names (slice_set s.running n run) s.arena
  runs s n run h = record {
    names_are = h.names_are;
    workers_are = length-set s.running n run ∙ h.workers_are;
    few = h.few;
    contents = h.contents;
  }

  takes : (s : State) (id : Id) (c : Content) → IsContent (Some c) → next_free s.arena ≡ Some id → Sized m k s →
      IsSized m k s.names s.running (taken id c s.arena)
  takes s id c is e h = at s.arena.free e where
    unused : (n : ℕ) → s.arena.unused ≡ n → next_unused (length s.arena.slots) n ≡ Some id →
        IsSized m k s.names s.running (taken_from [] id c s.arena)
    unused zero f g = absurd (none-some id g)
    unused (suc n) f g = record {
      names_are = h.names_are;
      workers_are = h.workers_are;
      few = omega (arith, f, h.few, length-append s.arena.slots (record { generation = 0; content = Some c } ∷ []));
      contents = contents_push s.arena.slots (record { generation = 0; content = Some c }) h.contents is;
    }

    at : (free : List ℕ) → next_id s.arena.slots s.arena.unused free ≡ Some id → IsSized m k s.names s.running (taken_from free id c s.arena)
    at [] g = unused s.arena.unused refl g
    at (i ∷ is_free) g = slot_set s id.slot (record { generation = id.generation; content = Some c }) is_free is h

  frees : (s : State) (last : ℕ) (id : Id) → Sized m k s → IsSized m k s.names s.running (freed last id s.arena)
  frees s last id h = if_keeps (λ (arena : Slots Content). IsSized m k s.names s.running arena) (id.generation == last) _ _
      (slot_set s id.slot (record { generation = id.generation; content = None }) s.arena.free tt h)
      (slot_set s id.slot (record { generation = id.generation + 1; content = None }) (id.slot ∷ s.arena.free) tt h)

  -- ---- the ops

  made : (s : State) (t : Option (Id × Content)) (f : Id → State) → Sized m k s → ((id : Id) → next_free s.arena ≡ Some id → Sized m k (f id)) →
      Sized m k (ops.make s t f).state
  made s (Some t) f h new = h
  made s None f h new = found_both (next_free s.arena) _ _ (λ (d : ops.Done). Sized m k d.state) new (λ e. h)

  inits : (s : State) (v : Var) (kind : Kind) (id : Id) → next_free s.arena ≡ Some id → Sized m k s → Sized m k (ops.with_new s v kind id)
  inits s v kind id e h =
      let u = record s { arena = taken id (content.Handle (inited v kind)) s.arena } in
      let b = takes s id (content.Handle (inited v kind)) tt e h in
      let w = ops.listed_last u kind id in
      renamed w v (record (named w v) { id = Some id }) (if_keeps (Sized m k) (is_async kind) _ u b b)

  queues : (s : State) (v : Var) (task : Task) (id : Id) → next_free s.arena ≡ Some id → Sized m k s → Sized m k (ops.with_queued s v task id)
  queues s v task id e h =
      let u = record s { arena = taken id (content.Request (queued v task)) s.arena; waiting = s.waiting ++ id ∷ [] } in
      renamed u v (record (named u v) { id = Some id }) (takes s id (content.Request (queued v task)) tt e h)

  cancelled : (s : State) (t : Result (Id × Request) Code) → Sized m k s → Sized m k (ops.cancel s t).state
  cancelled s (Err code) h = h
  cancelled s (Ok t) h = if_keeps (λ (d : ops.Done). Sized m k d.state) (list_any (same_id t.0) s.waiting) _ _
      (holds s t.0 (content.Request (record t.1 { outcome = Cancelled })) tt h) h

  on_handle : (s : State) (t : Result (Id × HandleRecord) Code) (why : HandleRecord → Option Code) (f : Id → HandleRecord → ops.Done) → Sized m k s →
      ((id : Id) (x : HandleRecord) → Sized m k (f id x).state) → Sized m k (ops.on_handle s t why f).state
  on_handle s (Err code) why f h g = h
  on_handle s (Ok t) why f h g = found_both (why t.1) _ (f t.0 t.1) (λ (d : ops.Done). Sized m k d.state) (λ code e. h) (λ e. g t.0 t.1)

  stops : (s : State) (id : Id) (x : HandleRecord) → Sized m k s → Sized m k (stopped s id x)
  stops s id x h = handled s id (records.stopped x) h

  starts : (s : State) (id : Id) (x : HandleRecord) (timeout repeat : ℕ) → Sized m k s → Sized m k (started s id x timeout repeat)
  starts s id x timeout repeat h = handled s id _ h

  restarts : (s : State) (id : Id) (x : HandleRecord) → Sized m k s → Sized m k (restarted s id x)
  restarts s id x h = if_keeps (Sized m k) (x.repeat == 0) s _ h (starts s id x x.repeat x.repeat h)

  starts_watcher : (s : State) (id : Id) (x : HandleRecord) → Sized m k s → Sized m k (ops.start_watcher s id x).state
  starts_watcher s id x h = if_keeps (Sized m k) x.active s _ h
      (found_both (watcher_kind x.kind) _ _ (Sized m k)
      (λ kind e. handled (with_watched s kind (with_first (watched s kind) id)) id (activated x) h) (λ e. handled s id (activated x) h))

  sends : (s : State) (t : Result (Id × HandleRecord) Code) → Sized m k s → Sized m k (ops.send s t).state
  sends s (Err code) h = h
  sends s (Ok t) h = found_both (send_refusal t.1) _ _ (λ (d : ops.Coded). Sized m k d.state) (λ code e. h)
      (λ e. handled s t.0 (records.sent t.1) h)

  op_sized : (s : State) (x : Op) → Sized m k s → Sized m k (do_op s x).state
  op_sized s (op.Init v kind) h = made s (live s v) (ops.with_new s v kind) h (λ id e. inits s v kind id e h)
  op_sized s (op.Queue v task) h = made s (live s v) (ops.with_queued s v task) h (λ id e. queues s v task id e h)
  op_sized s (op.Cancel v) h = cancelled s (live_request s v) h
  op_sized s (op.Start v timeout repeat) h = on_handle s (live_handle s v) start_timer_refusal _ h
      (λ id x. starts (stopped s id x) id x timeout repeat (stops s id x h))
  op_sized s (op.StartWatcher v) h = on_handle s (live_handle s v) start_watcher_refusal _ h (λ id x. starts_watcher s id x h)
  op_sized s (op.Stop v) h = on_handle s (live_handle s v) stop_refusal _ h (λ id x. stops s id x h)
  op_sized s (op.Again v) h = on_handle s (live_handle s v) again_refusal _ h (λ id x. restarts (stopped s id x) id x (stops s id x h))
  op_sized s (op.SetRepeat v repeat) h = on_handle s (live_handle s v) timer_refusal _ h (λ id x. handled s id (repeating repeat x) h)
  op_sized s (op.DueIn v) h = on_handle s (live_handle s v) timer_refusal _ h (λ id x. h)
  op_sized s (op.Close v) h = on_handle s (live_handle s v) close_refusal _ h (λ id x. handled s id (records.closed x) h)
  op_sized s (op.Ref v) h = on_handle s (live_handle s v) no_refusal _ h (λ id x. handled s id (referenced_as true x) h)
  op_sized s (op.Unref v) h = on_handle s (live_handle s v) no_refusal _ h (λ id x. handled s id (referenced_as false x) h)
  op_sized s (op.HasRef v) h = on_handle s (live_handle s v) no_refusal _ h (λ id x. h)
  op_sized s (op.IsActive v) h = on_handle s (live_handle s v) no_refusal _ h (λ id x. h)
  op_sized s (op.IsClosing v) h = on_handle s (live_handle s v) no_refusal _ h (λ id x. h)
  op_sized s (op.Send v) h = sends s (live_handle s v) h
  op_sized s op.StopLoop h = h
  op_sized s op.UpdateTime h = h
  op_sized s op.Now h = h
  op_sized s op.IsAlive h = h
  op_sized s op.Timeout h = h
  op_sized s op.CloseLoop h = if_keeps (λ (d : ops.Done). Sized m k d.state) (ops.is_in_use s) _ _ h h

-- ---- fronts of lists

held_there : (slots : List (Slot Content)) (id : Id) (x : Option (Slot Content)) (c : Content) → slice_get slots id.slot ≡ x →
    option_and_then (held_in id) x ≡ Some c → id.slot < length slots
held_there slots id x c e h = grind (arith, none-some, slice_get_within)

held_content : (slots : List (Slot Content)) (id : Id) (x : Option (Slot Content)) (c : Content) → slice_get slots id.slot ≡ x →
    option_and_then (held_in id) x ≡ Some c → AreContents slots → IsContent (Some c)
held_content slots id x c e h all = grind (arith, none-some, elements)

front_there : (s : State) (ids : List Id) (t : Id × HandleRecord) → front s ids ≡ Some t → t.0.slot < length s.arena.slots
front_there s ids t e = grind (arith, none-some, same_Some, held_there)

pub record RequestShown (s : State) (t : Id × Request) : Type 0 where
  pub there : t.0.slot < length s.arena.slots
  pub ending : AreContents s.arena.slots → IsEnding t.1.outcome

request_shown : (s : State) (ids : List Id) (t : Id × Request) → front_request s ids ≡ Some t → RequestShown s t
request_shown s [] t e = absurd (none-some t e)
request_shown s (x ∷ ids) t e = at (held s.arena.slots x) refl e where
  at : (c : Option Content) → held s.arena.slots x ≡ c → with_id x (request_in c) ≡ Some t → RequestShown s t
  at None f g = absurd (none-some t g)
  at (Some (content.Handle h)) f g = absurd (none-some t g)
  at (Some (content.Request r)) f g =
      subst (RequestShown s) (same_Some _ _ g) (record {
        there = held_there s.arena.slots x (slice_get s.arena.slots x.slot) (content.Request r) refl f;
        ending = held_content s.arena.slots x (slice_get s.arena.slots x.slot) (content.Request r) refl f;
      })

-- the first timer that is due is held
due_front : (s : State) (ts : List (Due × Id)) (t : Id × HandleRecord) → first_due s ts ≡ Some t → front s (t.0 ∷ []) ≡ Some t
due_front s ts t e = grind arith

-- so is the handle of a live name
live_front : (s : State) (bound : Option Id) (t : Id × HandleRecord) → as_handle (live_id s bound) ≡ Ok t → front s (t.0 ∷ []) ≡ Some t
live_front s bound t e = grind arith

-- ---- the rows

module _ (p : Program) (m k : ℕ) where
  short : (s : State) (ids : List Id) (t : Id × HandleRecord) → front s ids ≡ Some t → CanStep s → Sized m k s → IsShort t.0
  short s ids t e able h = record {
    slot = omega (arith, front_there s ids t e, h.few);
    generation = front_freed s ids t.0 t.1 e able;
  }

  called : (s : State) (run : Run) (kind : Callback) (v : Var) (l : Seen) → Sized m k s → Shows l → Stays m k (calls p s run kind v l)
  called s run kind v l h shows = (renamed m k s v (record (named s v) { calls = counted kind (named s v).calls }) h, shows)

  turned : (s : State) (run : Run) (turn : Turn) → Sized m k s → Stays m k (turns (order_of p) s run turn)
  turned s run turn h = by (way (order_of p) run.mode (goes s) turn) where
    by : (w : Way) → Stays m k (goes_by (order_of p) s run w)
    by (ToTimers part) = (h, tt)
    by ToPending = (h, tt)
    by ToEnd = (h, tt)

  fired : (s : State) (run : Run) (part : TimersOf) → CanStep s → Sized m k s → Stays m k (fire p s run part)
  fired s run part able h = found_both (front s s.ready) _ _ (Stays m k)
      (λ t e. let u = record s { ready = drop 1 s.ready } in
      called (restarted u t.0 t.1) (record run { stage = Timers part Firing }) callback.Handle t.1.name (seen.Call t.1.name t.0)
      (restarts m k u t.0 t.1 h) (short s s.ready t e able h))
      (λ e. turned s run (Behind part) h)

  timed : (s : State) (run : Run) (part : TimersOf) (timing : Timing) → CanStep s → Sized m k s → Stays m k (timers p s run part timing)
  timed s run part Collecting able h = if_keeps (Stays m k) (from_heap p) _ _
      (found_both (first_due s s.timers) _ _ (Stays m k)
      (λ t e. let u = stopped s t.0 t.1 in
      called (restarted u t.0 t.1) (record run { stage = Timers part Collecting }) callback.Handle t.1.name (seen.Call t.1.name t.0)
      (restarts m k u t.0 t.1 (handled m k (taken_off s t.0 t.1) t.0 (records.stopped t.1) h))
      (short s (t.0 ∷ []) t (due_front s s.timers t e) able h))
      (λ e. turned s run (Behind part) h))
      (found_both (first_due s s.timers) _ _ (Stays m k)
      (λ t e. (handled m k s t.0 (records.stopped t.1) h, tt)) (λ e. fired s run part able h))
  timed s run part Firing able h = fired s run part able h

  begun : (s : State) (run : Run) (kind : WatcherKind) → Sized m k s → Stays m k (begin_walk s run kind)
  begun s run kind h = (h, tt)

  walked : (s : State) (run : Run) (kind : WatcherKind) → Sized m k s → Stays m k (after_walk s run kind)
  walked s run watcher.Idle h = begun s run watcher.Prepare h
  walked s run watcher.Prepare h = (h, tt)
  walked s run watcher.Check h = (h, tt)
  walked s run watcher.Async h = begun s run watcher.Check h

  walks : (s : State) (run : Run) (kind : WatcherKind) → CanStep s → Sized m k s → Stays m k (walk p s run kind)
  walks s run kind able h = found_both (front s (watched s kind).yet) _ _ (Stays m k)
      (λ t e. called (front_moved s kind t.0) run callback.Handle t.1.name (seen.Call t.1.name t.0) h
      (short s (watched s kind).yet t e able h))
      (λ e. walked s run kind h)

  walks_async : (s : State) (run : Run) → CanStep s → Sized m k s → Stays m k (walk_async p s run)
  walks_async s run able h = found_both (front s s.watchers.async.yet) _ _ (Stays m k)
      (λ t e. let u = front_moved s watcher.Async t.0 in
      if_keeps (Stays m k) t.1.pending _ _
      (called (with_handle u t.0 (records.woken t.1)) run callback.Handle t.1.name (seen.Call t.1.name t.0) (handled m k u t.0 (records.woken t.1) h)
      (short s s.watchers.async.yet t e able h))
      (h, tt))
      (λ e. walked s run watcher.Async h)

  closes : (s : State) (run : Run) → CanStep s → Sized m k s → Stays m k (close_front p s run)
  closes s run able h = found_both (front s s.closing.yet) _ _ (Stays m k)
      (λ t e. let last = (arena_size p).last_generation in
      let u = record s { arena = freed last t.0 s.arena; closing = record s.closing { yet = drop 1 s.closing.yet } } in
      called u run callback.Close t.1.name (seen.Closed t.1.name t.0) (frees m k s last t.0 h) (short s s.closing.yet t e able h))
      (λ e. turned s run BehindClosing h)

  ends_with : (o : Outcome) → IsEnding o → IfSome (digest_in o) IsDigest
  ends_with Open h = tt
  ends_with (Finished digest) h = h
  ends_with Cancelled h = tt

  collects : (s : State) (run : Run) → CanStep s → Sized m k s → Stays m k (collect_request p s run)
  collects s run able h = found_both (front_request s s.done.yet) _ _ (Stays m k)
      (λ t e. let last = (arena_size p).last_generation in
      let u = record s { arena = freed last t.0 s.arena; done = record s.done { yet = drop 1 s.done.yet } } in
      let is = request_shown s s.done.yet t e in
      called u run callback.After t.1.name (seen.After (digest_in t.1.outcome) t.1.name t.0) (frees m k s last t.0 h) (
        record { slot = omega (arith, is.there, h.few); generation = request_freed s s.done.yet t.0 t.1 e able },
        ends_with t.1.outcome (is.ending h.contents),
      ))
      (λ e. begun s run watcher.Async h)

  staged : (s : State) (run : Run) (stage : Stage) → CanStep s → Sized m k s → Stays m k (stage_step p s run stage)
  staged s run Entry able h = turned s run AtEntry h
  staged s run Pending able h = begun s run watcher.Idle h
  staged s run (Walking watcher.Async) able h = walks_async s run able h
  staged s run (Walking kind) able h = walks s run kind able h
  staged s run (Poll deadline) able h = if_keeps (Stays m k) (may_leave s deadline) _ _ (h, tt) tt
  staged s run (Polled true) able h = (h, tt)
  staged s run (Polled false) able h = (h, tt)
  staged s run Done able h = collects s run able h
  staged s run DoneUnwoken able h = (h, tt)
  staged s run Closing able h = closes s run able h
  staged s run (Timers part timing) able h = timed s run part timing able h

  bodied : (s : State) (run : Run) (body : Body) (line : Option CallbackLine) → Sized m k s → Stays m k (body_step p s run body line)
  bodied s run body None h = (h, tt)
  bodied s run body (Some line) h = (op_sized m k s line.op h, tt)

  ran : (s : State) (run : Run) (body : Option Body) → CanStep s → Sized m k s → Stays m k (run_step p s run body)
  ran s run None able h = staged s run run.stage able h
  ran s run (Some body) able h = bodied s run body _ h

  in_main : (s : State) (line : ℕ) (x : Option MainOp) → Sized m k s → Stays m k (main_step (order_of p) s line x)
  in_main s line None h = tt
  in_main s line (Some (main.Run mode)) h = (if_keeps (Sized m k) (refreshes (order_of p) mode) (refreshed s) s h h, tt)
  in_main s line (Some (main.Op op)) h = (op_sized m k s op h, tt)

  looped : (s : State) (place : Place) → CanStep s → Sized m k s → Stays m k (loop_step p s place)
  looped s (Main line) able h = in_main s line _ h
  looped s (Running run) able h = ran s run run.body able h

  takes_on : (s : State) (n : ℕ) (t : Result (Id × Request) Why) → Sized m k s → Stays m k (take s n t)
  takes_on s n (Err why) h = tt
  takes_on s n (Ok t) h = (runs m k s n (Some t.0) h, tt)

  finishes : (s : State) (n : ℕ) (t : Result (Id × Request) Why) → Sized m k s → Stays m k (finish s n t)
  finishes s n (Err why) h = tt
  finishes s n (Ok t) h =
      let u = record s { running = slice_set s.running n None } in
      let task = t.1.task in
      let digest = digest_of task.rounds (text_of task) in (
        holds m k u t.0 (content.Request (record t.1 { outcome = Finished digest })) (is_digest task.rounds (text_of task) task.rounds_fit.some)
            (runs m k s n None h),
        tt,
      )

  answers : (s : State) (v : Var) (r : Option Run) (t : Result (Id × HandleRecord) Code) → live_handle s v ≡ t → CanStep s → Sized m k s →
      Stays m k (call_io p s v r (io_handle t))
  answers s v None t e able h = tt
  answers s v (Some run) (Err code) e able h = tt
  answers s v (Some run) (Ok t) e able h = if_keeps (λ (o : Option Id). Stays m k (call_io p s v (Some run) o)) (is_io t.1.kind && t.1.active) _ _
      (called (record s { time = time_polled s run.stage }) (record run { stage = stage_polled s run.stage }) callback.Handle v (seen.Io v t.0) h
      (short s (t.0 ∷ []) t (live_front s (named s v).id t e) able h))
      tt

  pub next_sized : (s : State) (e : Event) → CanStep s → Sized m k s → Stays m k (next p s e)
  unfolding next
  next_sized s Loop able h = looped s s.place able h
  next_sized s (Take n) able h = takes_on s n (next_work s (slice_get s.running n)) h
  next_sized s (Finish n) able h = finishes s n (work_of s (slice_get s.running n)) h
  next_sized s (Cancel v) able h = if_keeps (Stays m k) (nat_lt v.0 (length s.names)) _ _ (cancelled m k s (live_request s v) h, tt) tt
  next_sized s (Send v) able h = if_keeps (Stays m k) (nat_lt v.0 (length s.names)) _ _ (sends m k s (live_handle s v) h, tt) tt
  next_sized s (Io v) able h = if_keeps (Stays m k) (nat_lt v.0 (length s.names)) _ _
      (answers s v (io_run p s s.place) (live_handle s v) refl able h) tt
  next_sized s (Tick ms) able h = if_keeps (Stays m k) (nat_le (s.clock + ms) LATEST) _ _ (h, tt) tt

  -- ---- what is taken

  can_take : (s : State) (n : ℕ) (x : Option (Option Id)) → slice_get s.running n ≡ x → Sized m k s → IsMove (take s n (next_work s x)) → n < k
  can_take s n None e h move = absurd move
  can_take s n (Some run) e h move = omega (arith, slice_get_within s.running n run e, h.workers_are)

  can_finish : (s : State) (n : ℕ) (x : Option (Option Id)) → slice_get s.running n ≡ x → Sized m k s → IsMove (finish s n (work_of s x)) → n < k
  can_finish s n None e h move = absurd move
  can_finish s n (Some run) e h move = omega (arith, slice_get_within s.running n run e, h.workers_are)

  can_name : (s : State) (v : Var) (x : Next) → Sized m k s →
      IsMove (if nat_lt v.0 (length s.names) then x else Refuses Range) → v.0 < m
  can_name s v x h = cond_both (nat_lt v.0 (length s.names)) x (Refuses Range) (λ (n : Next). IsMove n → v.0 < m)
      (λ e _. let within = ltb-true v.0 (length s.names) e in omega (arith, within, h.names_are)) (λ _ move. absurd move)

  pub can_be : (s : State) (e : Event) → Sized m k s → IsMove (next p s e) → CanBe m k e
  unfolding next
  can_be s Loop h move = tt
  can_be s (Take n) h move = can_take s n (slice_get s.running n) refl h move
  can_be s (Finish n) h move = can_finish s n (slice_get s.running n) refl h move
  can_be s (Cancel v) h move = can_name s v _ h move
  can_be s (Send v) h move = can_name s v _ h move
  can_be s (Io v) h move = can_name s v _ h move
  can_be s (Tick ms) h move = cond_both (nat_le (s.clock + ms) LATEST) _ (Refuses Range) (λ (n : Next). IsMove n → ms ≤ LATEST)
      (λ e _. let within = leb-true (s.clock + ms) LATEST e in omega (arith, within)) (λ _ f. absurd f) move

  called_there : (s : State) (v : Var) (id : Option Id) (place : Place) → IsMove (call_io p s v (io_run p s place) id) → has_io p ≡ true
  called_there s v id (Main line) = λ move. absurd move
  called_there s v id (Running run) = cond_both (has_io p && takes_io s run.stage run.body) _ _
      (λ (r : Option Run). IsMove (call_io p s v r id) → has_io p ≡ true) (λ e move. (and_parts _ _ e).0) (λ e move. absurd move)

  -- the script has it
  pub can_have : (s : State) (e : Event) → IsMove (next p s e) → has_step p e ≡ true
  unfolding next
  can_have s (Io v) move = cond_both (nat_lt v.0 (length s.names)) _ (Refuses Range) (λ (n : Next). IsMove n → has_io p ≡ true)
      (λ e. called_there s v (io_handle (live_handle s v)) s.place) (λ e f. absurd f) move
  can_have s each move = refl

-- One walk through the rows of `next`: each row from a changed state is that row from the state itself, so changed.
use Rattle.uv_alike.proofs.Names.{if◌then◌else◌, Program, State, ◌≡◌, ℕ, ◌+◌, ◌==◌, ◌&&◌, List, drop, length, Bool, true, false, Option, Some, None, Result, Ok, Err, refl, ap, ap₂, sym, ◌∙◌, arith, not, nat_le, nat_lt, slice_get, slice_set, Id, Order, V144, V145, Var, Code, Seen, Event, Loop, Take, Finish, Cancel, Send, Io, Tick, Why, Slots, Content, order_of, from_heap, arena_size, has_io, lines_in, HandleRecord, Request, WatcherKind, MainOp, CallbackLine, request, front, front_request, with_id, with_handle, live_handle, live_request, taken_off, stopped, started, restarted, found_or, freed, with_watched, watched, refreshed, do_op, Body, Run, Stage, Entry, Pending, Walking, Poll, Polled, Done, DoneUnwoken, Closing, Timers, TimersOf, Timing, Collecting, Firing, Turn, AtEntry, Behind, BehindClosing, Way, ToTimers, ToPending, ToEnd, Place, Main, Running, Moves, ◌||◌, map, option_map, drop-map, map-append, Mode, main_op, all_yet, digest_in, Finished, LATEST, is_alive, poll_timeout, deadline_of, Coded, Next, Refuses, first_due, collected, Change, changed, changed_handle, changed_request, changed_entry, changed_line, changed_run, changed_place, changed_stage, changed_body, changed_walk, changed_callback, changed_main, changed_event, changed_answer, changed_program, Comes, Hides, IsWhole, cancels_at, cancels_line, cancels_main, cancels_run, place_reads_clock, line_reads_clock, main_reads_clock, run_reads_clock, stage_reads_clock, Blocked, IdleWorker, text_of, Callback}
use Rattle.uv_ids.specs.declared.phase.Phase.{Phase}
use Rattle.uv_ids.specs.declared.phase.Phase.TheVariants as phase
use Rattle.uv_ids.specs.declared.seen.Seen.TheVariants as seen
use Rattle.uv_ids.specs.declared.seen.Site.TheVariants as site
use Rattle.uv_ids.specs.declared.seen.Callback.TheVariants as callback
use Rattle.uv_ids.specs.declared.fault.Why.TheVariants.{NoWork, Range}
use Rattle.uv_script.specs.declared.op.MainOp.TheVariants as main
use Rattle.uv_records.specs.Handles as records
use Rattle.uv_records.specs.declared.lists.WatcherKind.TheVariants as watcher
use Rattle.uv_work.specs.Digests.{digest_of}
use Rattle.uv_model.specs.declared.place.TimersOf.TheVariants as timers_of
use Rattle.uv_model.specs.Ops as ops
use Rattle.uv_model.specs.Next as steps
use Rattle.uv_model.specs.Next.{next}
use Rattle.uv_alike.proofs.Cases.{if_shift}
use Rattle.uv_alike.proofs.Ops.{Cancels, Clocks, AreDone, Reads, by_test, found_changed, front_held, first_due_held, some_changed, found_handle, found_request, request_puts, put_changed, put_twice, stopped_changed, restarted_changed, collected_changed, request_changed, with_job, front_request_changed, front_changed, first_due_changed, alive, woken, poll_changed, deadline_changed, passed_changed, refreshed_changed, ended_changed, cancel_changed, send_changed, op_changed, whole_reads, whole_done, changed_pair, changed_job, run_asks_done, stage_asks_done, place_asks_done}

-- ---- the clock, where a run goes on

-- whether timers begin with the time refreshed
abbrev way_reads : Order → Way → Bool
way_reads V145 (ToTimers timers_of.Iteration) = true
way_reads V144 (ToTimers part) = true
way_reads o way = false

abbrev turn_reads : Turn → Order → Bool
turn_reads AtEntry V144 = true
turn_reads BehindClosing o = true
turn_reads turn o = false

way_turns : (o : Order) (m : Mode) (go : Bool) (t : Turn) → way_reads o (steps.way o m go t) ≡ true → turn_reads t o ≡ true
way_turns o m go t e = grind arith

-- two ways to look at a step, by which one from a changed state is one from the state itself
pub record SeesAlike (c : Change) (p : Program) (s : State) (left right : Next → Next) : Type 0 where
  pub refuses : (why : Why) → left (Refuses why) ≡ right (Refuses why)
  pub stays : (u : State) (line : Option Seen) → left (Moves (changed c u) (option_map (changed_line c p) line)) ≡ right (Moves u line)
  -- a callback begins, in a state with the names of this one
  pub calls : (u : State) (run : Run) (kind : Callback) (v : Var) (line : Seen) → u.names ≡ s.names
      → left (steps.calls (changed_program c p) (changed c u) (changed_run c run) kind (c.var v) (changed_line c p line))
      ≡ right (steps.calls p u run kind v line)
  -- the body of a call goes on
  pub goes : (u : State) (run : Run) (kind : Callback) (v : Var) (call number : ℕ) (line : Seen)
      → left (Moves (record (changed c u) {
        place =
            Running (record (changed_run c run) { body = steps.body_from (changed_program c p) kind (c.var v) (c.count call) number });
      })
      (Some (changed_line c p line)))
      ≡ right (Moves (record u { place = Running (record run { body = steps.body_from p kind v call number }) }) (Some line))

-- the script that the changed state is of
abbrev script : Change → Program → Program
script c p = changed_program c p

module _ (c : Change) (p : Program) (s : State) (hides : Hides c p s) (reads : Reads c p s)
    (left right : Next → Next) (sees : SeesAlike c p s left right) where
  -- ---- turns

  at_alike : (u : State) (run : Run) (stage : Stage) (line : Option Seen) →
      left (Moves (changed c (steps.at u run stage)) (option_map (changed_line c p) line)) ≡ right (Moves (steps.at u run stage) line)
  at_alike u run stage line = sees.stays (steps.at u run stage) line

  -- a section begins
  begins_alike : (u u' : State) (run : Run) (stage : Stage) (word : Phase) → changed_stage c stage ≡ stage → u' ≡ changed c u →
      left (steps.begins u' (changed_run c run) stage word) ≡ right (steps.begins u run stage word)
  begins_alike u u' run stage word there same =
      ap₂ (λ t (q : Stage). left (steps.begins t (changed_run c run) q word)) same (sym there) ∙ at_alike u run stage (Some (seen.Section word))

  way_alike : (o : Order) (run : Run) (w : Way) → (way_reads o w ≡ true → Clocks c s) →
      left (steps.goes_by o (changed c s) (changed_run c run) w) ≡ right (steps.goes_by o s run w)
  way_alike V145 run (ToTimers timers_of.Entry) time = begins_alike s _ run _ _ refl refl
  way_alike V145 run (ToTimers timers_of.Iteration) time = begins_alike (refreshed s) _ run _ _ refl (refreshed_changed c p s hides (time refl))
  way_alike V144 run (ToTimers timers_of.Entry) time = begins_alike (record (refreshed s) { idled = false }) _ run _ _ refl
      (ap (λ (u : State). record u { idled = false }) (refreshed_changed c p s hides (time refl)))
  way_alike V144 run (ToTimers timers_of.Iteration) time = begins_alike (refreshed s) _ run _ _ refl (refreshed_changed c p s hides (time refl))
  way_alike V145 run ToPending time = begins_alike (record s { idled = steps.idled_then V145 s }) _ run _ _ refl
      (ap (λ b. record (changed c s) { idled = b }) ((some_changed c) s.watchers.idle.list))
  way_alike V144 run ToPending time = begins_alike s _ run _ _ refl refl
  way_alike o run ToEnd time =
      ap (λ b. left (Moves (record (changed c s) { place = Main (run.line + 1); stop_flag = false }) (Some (seen.End b)))) (alive c p s hides)
      ∙ sees.stays (record s { place = Main (run.line + 1); stop_flag = false }) (Some (seen.End (is_alive s)))

  turn_alike : (run : Run) (turn : Turn) → (turn_reads turn (order_of p) ≡ true → Clocks c s) →
      left (steps.turns (order_of p) (changed c s) (changed_run c run) turn) ≡ right (steps.turns (order_of p) s run turn)
  turn_alike run turn time =
      ap (λ b. left (steps.goes_by (order_of p) (changed c s) (changed_run c run) (steps.way (order_of p) run.mode (b && not s.stop_flag) turn)))
      (alive c p s hides)
      ∙ way_alike (order_of p) run (steps.way (order_of p) run.mode (steps.goes s) turn)
      (λ e. time (way_turns (order_of p) run.mode (steps.goes s) turn e))

  -- ---- the timers

  names_stay : (u : State) (id : Id) (h : HandleRecord) → u.names ≡ s.names → (restarted u id h).names ≡ s.names
  names_stay u id h same = by (h.repeat == 0) where
    by : (b : Bool) → (if b then u else started u id h h.repeat h.repeat).names ≡ s.names
    by true = same
    by false = same

  called : (u u' : State) (run : Run) (id : Id) (v : Var) → u.names ≡ s.names → u' ≡ changed c u →
      left (steps.call (script c p) u' (changed_run c run) (c.id id) (c.var v)) ≡ right (steps.call p u run id v)
  called u u' run id v names same = ap (λ t. left (steps.call (script c p) t (changed_run c run) (c.id id) (c.var v))) same
      ∙ sees.calls u run callback.Handle v (seen.Call v id) names

  fire_alike : (run : Run) (part : TimersOf) → left (steps.fire (script c p) (changed c s) (changed_run c run) part) ≡ right (steps.fire p s run part)
  fire_alike run part = found_changed left right (changed_pair c) (front s s.ready) (front (changed c s) (map c.id s.ready)) _ _ _ _
      ((front_changed c p s hides reads) s.ready)
      (λ t e. let u = record s { ready = drop 1 s.ready } in
      let is = front_held s s.ready t e in
      called (restarted u t.0 t.1) _ (record run { stage = Timers part Firing }) t.0 t.1.name (names_stay u t.0 t.1 refl)
      (ap (λ ids. restarted (record (changed c s) { ready = ids }) (c.id t.0) (changed_handle c t.1)) (drop-map c.id 1 s.ready)
      ∙ (restarted_changed c p s hides) u t.0 t.1 (reads.puts t.0 t.1 is) (hides.times.repeats t.0 t.1 is) (hides.times.fires t e) hides.times.more))
      (turn_alike run (Behind part) (λ e. cc e))

  collect_alike : (run : Run) (part : TimersOf) → left (steps.collect (script c p) (changed c s) (changed_run c run) part)
      ≡ right (steps.collect p s run part)
  collect_alike run part =
      found_changed left right (changed_pair c) (first_due s s.timers) (first_due (changed c s) (map (changed_entry c) s.timers)) _ _ _ _
      ((first_due_changed c p s hides reads) s.timers)
      (λ t e. ap (λ u. left (Moves (steps.at u (changed_run c run) (Timers part Collecting)) None))
      ((collected_changed c p s hides) t.0 t.1 (reads.puts t.0 t.1 (first_due_held s s.timers t e)))
      ∙ at_alike (collected s t.0 t.1) run (Timers part Collecting) None)
      (fire_alike run part)

  call_due_alike : (run : Run) (part : TimersOf) → left (steps.call_due (script c p) (changed c s) (changed_run c run) part)
      ≡ right (steps.call_due p s run part)
  call_due_alike run part =
      found_changed left right (changed_pair c) (first_due s s.timers) (first_due (changed c s) (map (changed_entry c) s.timers)) _ _ _ _
      ((first_due_changed c p s hides reads) s.timers)
      (λ t e. let u = stopped s t.0 t.1 in
      let is = first_due_held s s.timers t e in
      let puts = reads.puts t.0 t.1 is in
      called (restarted u t.0 t.1) _ (record run { stage = Timers part Collecting }) t.0 t.1.name (names_stay u t.0 t.1 refl)
      (ap (λ x. restarted x (c.id t.0) (changed_handle c t.1)) ((stopped_changed c p s hides) t.0 t.1 puts)
      ∙ (restarted_changed c p s hides) u t.0 t.1 ((put_twice c p s hides) (taken_off s t.0 t.1) t.0 (records.stopped t.1) puts)
      (hides.times.repeats t.0 t.1 is) (hides.times.falls t e) hides.times.more))
      (turn_alike run (Behind part) (λ e. cc e))

  timers_alike : (run : Run) (part : TimersOf) (when : Timing) →
      left (steps.timers (script c p) (changed c s) (changed_run c run) part when) ≡ right (steps.timers p s run part when)
  timers_alike run part Collecting = by_test left right (from_heap p) _ _ _ _ (call_due_alike run part) (collect_alike run part)
  timers_alike run part Firing = fire_alike run part

  -- ---- the sections that walk a list

  begin_walk_alike : (run : Run) (k : WatcherKind) → left (steps.begin_walk (changed c s) (changed_run c run) k) ≡ right (steps.begin_walk s run k)
  begin_walk_alike run watcher.Idle = begins_alike (with_watched s watcher.Idle (all_yet (watched s watcher.Idle))) _ run _ _ refl refl
  begin_walk_alike run watcher.Prepare = begins_alike (with_watched s watcher.Prepare (all_yet (watched s watcher.Prepare))) _ run _ _ refl refl
  begin_walk_alike run watcher.Check = begins_alike (with_watched s watcher.Check (all_yet (watched s watcher.Check))) _ run _ _ refl refl
  begin_walk_alike run watcher.Async = begins_alike (with_watched s watcher.Async (all_yet (watched s watcher.Async))) _ run _ _ refl refl

  begin_poll_alike : (run : Run) → left (steps.begin_poll (changed c s) (changed_run c run)) ≡ right (steps.begin_poll s run)
  begin_poll_alike run =
      let timeout = poll_timeout s run.mode in
      ap (λ t. left (Moves (steps.at (changed c s) (changed_run c run) (Poll (deadline_of (changed c s) t))) (Some (seen.Poll t))))
      ((poll_changed c p s hides) run.mode)
      ∙ ap (λ d. left (Moves (steps.at (changed c s) (changed_run c run) (Poll d)) (Some (seen.Poll timeout))))
      ((deadline_changed c p s hides) timeout)
      ∙ at_alike s run (Poll (deadline_of s timeout)) (Some (seen.Poll timeout))

  after_walk_alike : (run : Run) (k : WatcherKind) → left (steps.after_walk (changed c s) (changed_run c run) k) ≡ right (steps.after_walk s run k)
  after_walk_alike run watcher.Idle = begin_walk_alike run watcher.Prepare
  after_walk_alike run watcher.Prepare = begin_poll_alike run
  after_walk_alike run watcher.Check = begins_alike (record s { closing = all_yet s.closing }) _ run _ _ refl refl
  after_walk_alike run watcher.Async = begin_walk_alike run watcher.Check

  yet_changed : (k : WatcherKind) → front (changed c s) (watched (changed c s) k).yet ≡ option_map (changed_pair c) (front s (watched s k).yet)
  yet_changed watcher.Idle = (front_changed c p s hides reads) s.watchers.idle.yet
  yet_changed watcher.Prepare = (front_changed c p s hides reads) s.watchers.prepare.yet
  yet_changed watcher.Check = (front_changed c p s hides reads) s.watchers.check.yet
  yet_changed watcher.Async = (front_changed c p s hides reads) s.watchers.async.yet

  moved_changed : (k : WatcherKind) (id : Id) → steps.front_moved (changed c s) k (c.id id) ≡ changed c (steps.front_moved s k id)
  moved_changed watcher.Idle id = simp (map-append, drop-map)
  moved_changed watcher.Prepare id = simp (map-append, drop-map)
  moved_changed watcher.Check id = simp (map-append, drop-map)
  moved_changed watcher.Async id = simp (map-append, drop-map)

  walk_alike : (run : Run) (k : WatcherKind) → left (steps.walk (script c p) (changed c s) (changed_run c run) k) ≡ right (steps.walk p s run k)
  walk_alike run k = found_changed left right (changed_pair c) (front s (watched s k).yet) (front (changed c s) (watched (changed c s) k).yet) _ _ _ _
      (yet_changed k)
      (λ t e. called (steps.front_moved s k t.0) _ run t.0 t.1.name refl (moved_changed k t.0))
      (after_walk_alike run k)

  walk_async_alike : (run : Run) → left (steps.walk_async (script c p) (changed c s) (changed_run c run)) ≡ right (steps.walk_async p s run)
  walk_async_alike run =
      found_changed left right (changed_pair c) (front s s.watchers.async.yet) (front (changed c s) (map c.id s.watchers.async.yet)) _ _ _ _
      ((front_changed c p s hides reads) s.watchers.async.yet)
      (λ t e. let u = steps.front_moved s watcher.Async t.0 in
      let same = moved_changed watcher.Async t.0 in
      by_test left right t.1.pending _ _ _ _
      (called (with_handle u t.0 (records.woken t.1)) _ run t.0 t.1.name refl
      (ap (λ (x : State). with_handle x (c.id t.0) (changed_handle c (records.woken t.1))) same
      ∙ (put_changed c p s hides) u t.0 (records.woken t.1) (reads.puts t.0 t.1 (front_held s s.watchers.async.yet t e))))
      (ap (λ (x : State). left (Moves (steps.at x (changed_run c run) (Walking watcher.Async)) None)) same
      ∙ at_alike u run (Walking watcher.Async) None))
      (after_walk_alike run watcher.Async)

  in_walk_alike : (run : Run) (k : WatcherKind) → left (steps.in_walk (script c p) (changed c s) (changed_run c run) k)
      ≡ right (steps.in_walk p s run k)
  in_walk_alike run watcher.Async = walk_async_alike run
  in_walk_alike run watcher.Idle = walk_alike run watcher.Idle
  in_walk_alike run watcher.Prepare = walk_alike run watcher.Prepare
  in_walk_alike run watcher.Check = walk_alike run watcher.Check

  -- ---- slots that are freed

  close_front_alike : (run : Run) → Clocks c s → left (steps.close_front (script c p) (changed c s) (changed_run c run))
      ≡ right (steps.close_front p s run)
  close_front_alike run time =
      found_changed left right (changed_pair c) (front s s.closing.yet) (front (changed c s) (map c.id s.closing.yet)) _ _ _ _
      ((front_changed c p s hides reads) s.closing.yet)
      (λ t e. let last = (arena_size p).last_generation in
      let gone = record s { arena = freed last t.0 s.arena; closing = record s.closing { yet = drop 1 s.closing.yet } } in
      ap₂ (λ (a : Slots Content) (ids : List Id). left (steps.calls (script c p)
      (record (changed c s) { arena = a; closing = record (changed_walk c s.closing) { yet = ids } }) (changed_run c run) callback.Close
      (c.var t.1.name)
      (seen.Closed (c.var t.1.name) (c.id t.0))))
      (reads.frees t.0 t.1 (front_held s s.closing.yet t e))
      (drop-map c.id 1 s.closing.yet)
      ∙ sees.calls gone run callback.Close t.1.name (seen.Closed t.1.name t.0) refl)
      (turn_alike run BehindClosing (λ e. time))

  collect_request_alike : (run : Run) → left (steps.collect_request (script c p) (changed c s) (changed_run c run))
      ≡ right (steps.collect_request p s run)
  collect_request_alike run =
      found_changed left right (changed_job c) (front_request s s.done.yet) (front_request (changed c s) (map c.id s.done.yet)) _ _ _ _
      reads.found
      (λ t e. let last = (arena_size p).last_generation in
      let line = seen.After (digest_in t.1.outcome) t.1.name t.0 in
      let gone = record s { arena = freed last t.0 s.arena; done = record s.done { yet = drop 1 s.done.yet } } in
      ap₂ (λ (a : Slots Content) (ids : List Id). left (steps.calls (script c p)
      (record (changed c s) { arena = a; done = record (changed c s).done { yet = ids } }) (changed_run c run) callback.After (c.var t.1.name)
      (seen.After (digest_in (c.work.outcome t.1.outcome)) (c.var t.1.name) (c.id t.0))))
      (reads.collects t e)
      (drop-map c.id 1 s.done.yet)
      ∙ ap (λ digest. left (steps.calls (script c p) (changed c gone) (changed_run c run) callback.After (c.var t.1.name)
      (seen.After digest (c.var t.1.name) (c.id t.0)))) (hides.work.tells t.1.outcome)
      ∙ sees.calls gone run callback.After t.1.name line refl)
      (begin_walk_alike run watcher.Async)

  -- ---- the loop's own steps

  begin_done_alike : (u u' : State) (run : Run) → u' ≡ changed c u → AreDone c u →
      left (steps.begin_done u' (changed_run c run)) ≡ right (steps.begin_done u run)
  begin_done_alike u u' run same done = ap (λ t. left (steps.begin_done t (changed_run c run))) same
      ∙ begins_alike (record u { done = all_yet u.done }) _ run Done phase.Done refl
      (λ i. record (changed c u) { done = record { list = sym done.0 i; yet = done.1 i } })

  poll_alike : (run : Run) (deadline : Option ℕ) → Clocks c s → AreDone c s →
      left (steps.poll (changed c s) (changed_run c run) (option_map c.times.time deadline)) ≡ right (steps.poll s run deadline)
  poll_alike run deadline time done =
      ap₂ (λ a b. left (if a || b then steps.begin_done (refreshed (changed c s)) (changed_run c run) else Refuses Blocked))
      (passed_changed c p s hides time deadline) (woken c p s hides done)
      ∙ by_test left right (steps.may_leave s deadline) _ _ _ _ (begin_done_alike (refreshed s) _ run (refreshed_changed c p s hides time) done)
      (sees.refuses Blocked)

  stage_alike : (run : Run) (stage : Stage) → (stage_asks_done stage ≡ true → AreDone c s) →
      (stage_reads_clock stage (order_of p) ≡ true → Clocks c s) →
      left (steps.stage_step (script c p) (changed c s) (changed_run c run) (changed_stage c stage)) ≡ right (steps.stage_step p s run stage)
  stage_alike run Entry done time = turn_alike run AtEntry (λ e. time (by (order_of p) e)) where
    by : (o : Order) → turn_reads AtEntry o ≡ true → stage_reads_clock Entry o ≡ true
    by V144 e = e
    by V145 e = e
  stage_alike run Pending done time = begin_walk_alike run watcher.Idle
  stage_alike run (Walking k) done time = in_walk_alike run k
  stage_alike run (Poll deadline) done time = poll_alike run deadline (time refl) (done refl)
  stage_alike run (Polled true) done time = begin_done_alike s _ run refl (done refl)
  stage_alike run (Polled false) done time = begins_alike s _ run DoneUnwoken phase.Done refl refl
  stage_alike run Done done time = collect_request_alike run
  stage_alike run DoneUnwoken done time = begins_alike s _ run (Walking watcher.Async) phase.Async refl refl
  stage_alike run Closing done time = close_front_alike run (time refl)
  stage_alike run (Timers part when) done time = timers_alike run part when

  body_alike : (run : Run) (body : Body) (x : Option CallbackLine) → slice_get (lines_in p body.callback body.name) body.next ≡ x →
      (cancels_line x ≡ true → Cancels c s) → (line_reads_clock x ≡ true → Clocks c s) →
      left (steps.body_step (script c p) (changed c s) (changed_run c run) (changed_body c body) (option_map (changed_callback c) x))
      ≡ right (steps.body_step p s run body x)
  body_alike run body None e work time = sees.stays (record s { place = Running (record run { body = None }) }) None
  body_alike run body (Some line) e work time =
      let at = site.In body.callback body.name body.next in
      let is = ap (option_map (λ (l : CallbackLine). l.op)) e in
      let done = do_op s line.op in
      ap (λ (x : ops.Done). left (Moves (record x.state {
        place = Running (record (changed_run c run)
            { body = steps.body_from (script c p) body.callback (c.var body.name) (c.count body.call) (body.next + 1) });
      })
      (Some (seen.Op (site.In body.callback (c.var body.name) body.next) x.answer)))) (op_changed c p s hides reads at line.op is work time)
      ∙ ap (λ o. left (Moves (record (changed c done.state) {
        place = Running (record (changed_run c run)
            { body = steps.body_from (script c p) body.callback (c.var body.name) (c.count body.call) (body.next + 1) });
      })
      (Some (seen.Op (site.In body.callback (c.var body.name) body.next) (changed_answer c done.answer o))))) (sym is)
      ∙ sees.goes done.state run body.callback body.name body.call (body.next + 1) (seen.Op at done.answer)

  run_alike : (run : Run) (body : Option Body) → (cancels_run p body ≡ true → Cancels c s) → (run_asks_done run body ≡ true → AreDone c s) →
      (run_reads_clock p run body ≡ true → Clocks c s) →
      left (steps.run_step (script c p) (changed c s) (changed_run c run) (option_map (changed_body c) body)) ≡ right (steps.run_step p s run body)
  run_alike run None work done time = stage_alike run run.stage done time
  run_alike run (Some body) work done time =
      ap (λ x. left (steps.body_step (script c p) (changed c s) (changed_run c run) (changed_body c body) x))
      (hides.lines body.callback body.name body.next)
      ∙ body_alike run body (slice_get (lines_in p body.callback body.name) body.next) refl work time

  main_alike : (line : ℕ) (x : Option MainOp) → slice_get p.main line ≡ x → (cancels_main x ≡ true → Cancels c s) →
      (main_reads_clock (order_of p) x ≡ true → Clocks c s) →
      left (steps.main_step (order_of p) (changed c s) line (option_map (changed_main c) x)) ≡ right (steps.main_step (order_of p) s line x)
  main_alike line None e work time = sees.refuses _
  main_alike line (Some (main.Op o)) e work time =
      let is = ap main_op e in
      let done = do_op s o in
      ap (λ (x : ops.Done). left (Moves (record x.state { place = Main (line + 1) }) (Some (seen.Op (site.Main line) x.answer))))
      (op_changed c p s hides reads (site.Main line) o is work time)
      ∙ ap (λ q. left (Moves (record (changed c done.state) { place = Main (line + 1) })
      (Some (seen.Op (site.Main line) (changed_answer c done.answer q))))) (sym is)
      ∙ sees.stays (record done.state { place = Main (line + 1) }) (Some (seen.Op (site.Main line) done.answer))
  main_alike line (Some (main.Run mode)) e work time =
      let place = Running (record { mode = mode; line = line; stage = Entry; body = None }) in
      ap (λ (u : State). left (Moves (record u { place = place }) (Some (seen.Run mode))))
      (by (steps.refreshes (order_of p) mode) time)
      ∙ sees.stays (record (if steps.refreshes (order_of p) mode then refreshed s else s) { place = place }) (Some (seen.Run mode))
    where
      by : (b : Bool) → (b ≡ true → Clocks c s) → (if b then refreshed (changed c s) else changed c s) ≡ changed c (if b then refreshed s else s)
      by true time = refreshed_changed c p s hides (time refl)
      by false time = refl

  loop_from : (place : Place) → s.place ≡ place → (cancels_at p place ≡ true → Cancels c s) → (place_asks_done place ≡ true → AreDone c s) →
      (place_reads_clock p place ≡ true → Clocks c s) →
      left (steps.loop_step (script c p) (changed c s) (changed_place c place)) ≡ right (steps.loop_step p s place)
  loop_from (Main line) e work done time =
      ap (λ x. left (steps.main_step (order_of p) (changed c s) line x)) (hides.main line e) ∙ main_alike line (slice_get p.main line) refl work time
  loop_from (Running run) e work done time = run_alike run run.body work done time

  pub loop_alike : left (next (script c p) (changed c s) Loop) ≡ right (next p s Loop)
  unfolding next
  loop_alike = loop_from s.place refl reads.cancelled reads.done reads.clocks

-- ---- what comes from outside

module _ (c : Change) (p : Program) (s : State) (hides : Hides c p s) (whole : IsWhole c p s)
    (left right : Next → Next) (sees : SeesAlike c p s left right) where
  reads : Reads c p s
  reads = whole_reads c p s hides whole

  sent_to_alike : (v : Var) → left (steps.sent_to (changed c s) (c.var v)) ≡ right (steps.sent_to s v)
  sent_to_alike v =
      ap₂ (λ b (x : Coded). left (if b then Moves x.state (Some (seen.Send (c.var v) x.code)) else Refuses Range)) (hides.known v)
      ((send_changed c p s hides reads) v)
      ∙ by_test left right (nat_lt v.0 (length s.names)) _ _ _ _
      (sees.stays (ops.send s (live_handle s v)).state (Some (seen.Send v (ops.send s (live_handle s v)).code))) (sees.refuses Range)

  cancels_alike : (v : Var) → left (steps.cancels (changed c s) (c.var v)) ≡ right (steps.cancels s v)
  cancels_alike v =
      ap₂ (λ b (x : ops.Done). left (if b then Moves x.state (Some (seen.Cancel (c.var v) x.answer)) else Refuses Range)) (hides.known v)
      ((cancel_changed c p s hides whole) None v)
      ∙ by_test left right (nat_lt v.0 (length s.names)) _ _ _ _
      (sees.stays (ops.cancel s (live_request s v)).state (Some (seen.Cancel v (ops.cancel s (live_request s v)).answer))) (sees.refuses Range)

  found_work : (w : Why) (x : Option (Id × Request)) → found_or (option_map (changed_job c) x) Ok (Err w) ≡ (found_request c) (found_or x Ok (Err w))
  found_work w None = refl
  found_work w (Some t) = refl

  next_work_changed : (y : Option (Option Id)) → steps.next_work (changed c s) (option_map (option_map c.id) y)
      ≡ (found_request c) (steps.next_work s y)
  next_work_changed None = refl
  next_work_changed (Some (Some id)) = refl
  next_work_changed (Some None) =
      ap (λ ids. found_or (front_request (changed c s) ids) Ok (Err NoWork)) (whole.queued s.waiting)
      ∙ ap (λ x. found_or x Ok (Err NoWork)) (front_request_changed c p s hides whole s.waiting) ∙ found_work NoWork (front_request s s.waiting)

  take_alike : (k : ℕ) (t : Result (Id × Request) Why) → Comes c s (Take k) → left (steps.take (changed c s) k ((found_request c) t))
      ≡ right (steps.take s k t)
  take_alike k (Err why) can = sees.refuses why
  take_alike k (Ok t) can =
      ap₂ (λ ids rs. left (Moves (record (changed c s) { waiting = ids; running = rs }) (Some (seen.Take k (c.var t.1.name) (c.id t.0)))))
      (ap (drop 1) (whole.queued s.waiting) ∙ drop-map c.id 1 s.waiting ∙ sym (whole.queued (drop 1 s.waiting))) (can.1 (Some t.0))
      ∙ sees.stays (record s { waiting = drop 1 s.waiting; running = slice_set s.running k (Some t.0) }) (Some (seen.Take k t.1.name t.0))

  work_of_changed : (y : Option (Option Id)) → steps.work_of (changed c s) (option_map (option_map c.id) y) ≡ (found_request c) (steps.work_of s y)
  work_of_changed None = refl
  work_of_changed (Some None) = refl
  work_of_changed (Some (Some id)) = ap (λ x. found_or (with_id (c.id id) x) Ok (Err IdleWorker)) ((request_changed c p s hides whole) id)
      ∙ ap (λ x. found_or x Ok (Err IdleWorker)) ((with_job c p s hides whole) id (request s id)) ∙ found_work IdleWorker (with_id id (request s id))

  finish_alike : (k : ℕ) (t : Result (Id × Request) Why) → Comes c s (Finish k) → ((u : Id × Request) → t ≡ Ok u → request s u.0 ≡ Some u.1) →
      left (steps.finish (changed c s) k ((found_request c) t)) ≡ right (steps.finish s k t)
  finish_alike k (Err why) can is = sees.refuses why
  finish_alike k (Ok t) can is =
      let outcome = Finished (digest_of t.1.task.rounds (text_of t.1.task)) in
      let u = record s { running = slice_set s.running k None } in
      ap₂ (λ rs came. left (Moves (ops.ended (record (changed c s) { running = rs }) (c.id t.0) (changed_request c t.1) came)
      (Some (seen.Finish k (c.var t.1.name) (c.id t.0))))) (can.1 None) (sym (hides.work.finishes t.1.task))
      ∙ ap (λ x. left (Moves x (Some (seen.Finish k (c.var t.1.name) (c.id t.0)))))
      ((ended_changed c p s hides whole) u t.0 t.1 outcome ((request_puts c p s hides whole) t.0 t.1 (is t refl)))
      ∙ sees.stays (ops.ended u t.0 t.1 outcome) (Some (seen.Finish k t.1.name t.0))

  work_held : (y : Option (Option Id)) (t : Id × Request) → steps.work_of s y ≡ Ok t → request s t.0 ≡ Some t.1
  work_held y t e = grind arith

  -- ---- I/O

  takes_io_changed : (stage : Stage) (body : Option Body) →
      steps.takes_io (changed c s) (changed_stage c stage) (option_map (changed_body c) body) ≡ steps.takes_io s stage body
  takes_io_changed (Walking watcher.Async) None = ap not ((some_changed c) s.watchers.async.yet)
  takes_io_changed stage body = grind arith

  io_run_changed : (place : Place) → steps.io_run p (changed c s) (changed_place c place) ≡ option_map (changed_run c) (steps.io_run p s place)
  io_run_changed (Main line) = refl
  io_run_changed (Running run) = ap (λ b. if has_io p && b then Some (changed_run c run) else None) (takes_io_changed run.stage run.body)
      ∙ if_shift (option_map (changed_run c)) (has_io p && steps.takes_io s run.stage run.body) _ _ _ _ _ refl refl refl

  io_handle_changed : (t : Result (Id × HandleRecord) Code) → steps.io_handle ((found_handle c) t) ≡ option_map c.id (steps.io_handle t)
  io_handle_changed (Err code) = refl
  io_handle_changed (Ok t) = if_shift (option_map c.id) (records.is_io t.1.kind && t.1.active) _ _ _ _ _ refl refl refl

  stage_polled_changed : (stage : Stage) → steps.stage_polled (changed c s) (changed_stage c stage) ≡ changed_stage c (steps.stage_polled s stage)
  stage_polled_changed (Poll deadline) = ap Polled (woken c p s hides (whole_done c p s hides whole))
  stage_polled_changed stage = grind arith

  time_polled_changed : (stage : Stage) → steps.time_polled (changed c s) (changed_stage c stage) ≡ c.times.time (steps.time_polled s stage)
  time_polled_changed (Poll deadline) = whole.clocks
  time_polled_changed stage = grind arith

  call_io_alike : (v : Var) (r : Option Run) (x : Option Id) →
      left (steps.call_io (script c p) (changed c s) (c.var v) (option_map (changed_run c) r) (option_map c.id x)) ≡ right (steps.call_io p s v r x)
  call_io_alike v (Some run) (Some id) =
      ap₂ (λ time stage. left
      (steps.calls (script c p) (record (changed c s) { time = time }) (record (changed_run c run) { stage = stage }) callback.Handle (c.var v)
      (seen.Io (c.var v) (c.id id)))) (time_polled_changed run.stage) (stage_polled_changed run.stage)
      ∙ sees.calls (record s { time = steps.time_polled s run.stage }) (record run { stage = steps.stage_polled s run.stage }) callback.Handle v
      (seen.Io v id) refl
  call_io_alike v None None = sees.refuses Blocked
  call_io_alike v None (Some id) = sees.refuses Blocked
  call_io_alike v (Some run) None = sees.refuses Blocked

  io_alike : (v : Var) → left (steps.io (script c p) (changed c s) (c.var v)) ≡ right (steps.io p s v)
  io_alike v =
      ap (λ b. left (if b then steps.call_io (script c p) (changed c s) (c.var v) (steps.io_run p (changed c s) (changed_place c s.place))
      (steps.io_handle (live_handle (changed c s) (c.var v))) else Refuses Range)) (hides.known v)
      ∙ by_test left right (nat_lt v.0 (length s.names)) _ _ _ _
      (ap₂ (λ r x. left (steps.call_io (script c p) (changed c s) (c.var v) r x)) (io_run_changed s.place)
      (ap steps.io_handle (reads.lives v) ∙ io_handle_changed (live_handle s v))
      ∙ call_io_alike v (steps.io_run p s s.place) (steps.io_handle (live_handle s v)))
      (sees.refuses Range)

  -- ---- one step

  tick_alike : (ms : ℕ) → Comes c s (Tick ms) → left (steps.tick (changed c s) ms) ≡ right (steps.tick s ms)
  tick_alike ms can =
      ap₂ (λ b n. left (if b then Moves (record (changed c s) { clock = n }) (Some (seen.Tick ms)) else Refuses Range)) can.1 (sym can.0)
      ∙ by_test left right (nat_le (s.clock + ms) LATEST) _ _ _ _ (sees.stays (record s { clock = s.clock + ms }) (Some (seen.Tick ms)))
      (sees.refuses Range)

  pub next_alike : (e : Event) → Comes c s e → left (next (script c p) (changed c s) (changed_event c e)) ≡ right (next p s e)
  unfolding next
  next_alike Loop can = loop_alike c p s hides reads left right sees
  next_alike (Take k) can =
      ap (λ x. left (steps.take (changed c s) k (steps.next_work (changed c s) x))) can.0
      ∙ ap (λ t. left (steps.take (changed c s) k t)) (next_work_changed (slice_get s.running k))
      ∙ take_alike k (steps.next_work s (slice_get s.running k)) can
  next_alike (Finish k) can =
      ap (λ x. left (steps.finish (changed c s) k (steps.work_of (changed c s) x))) can.0
      ∙ ap (λ t. left (steps.finish (changed c s) k t)) (work_of_changed (slice_get s.running k))
      ∙ finish_alike k (steps.work_of s (slice_get s.running k)) can (work_held (slice_get s.running k))
  next_alike (Cancel v) can = cancels_alike v
  next_alike (Send v) can = sent_to_alike v
  next_alike (Io v) can = io_alike v
  next_alike (Tick ms) can = tick_alike ms can

-- What each change of a state's names and slots keeps, each step keeps: the tree of the steps is walked here, once.
use Rattle.uv_alike.proofs.Names.{◌≡◌, ℕ, ◌+◌, List, length, drop, true, false, Option, Some, None, Result, Ok, Err, arith, refl, ap, nat_le, nat_lt, ◌==◌, slice_get, slice_set, Id, Var, Kind, Code, Event, Loop, Take, Finish, Cancel, Send, Io, Tick, Why, Op, MainOp, CallbackLine, Callback, HandleRecord, WatcherKind, Slot, Slots, Content, Request, Named, Program, arena_size, order_of, from_heap, lines_in, State, found_or, front, front_request, watched, with_handle, with_named, with_request, handle, request, handle_in, request_in, live, live_handle, live_request, named, refreshed, stopped, restarted, freed, taken, next_free, held, inited, repeating, referenced_as, activated, is_async, queued, watcher_kind, start_timer_refusal, start_watcher_refusal, stop_refusal, again_refusal, timer_refusal, close_refusal, no_refusal, send_refusal, same_id, list_any, Body, Run, Stage, Entry, Pending, Walking, Poll, Polled, Done, DoneUnwoken, Closing, Timers, TimersOf, Timing, Collecting, Firing, Turn, AtEntry, Behind, BehindClosing, Way, ToTimers, ToPending, ToEnd, Place, Main, Running, Moves, do_op, Site, Calls, with_held, op_at, op_name, main_op, option_map, ◌⊎◌, inl, inr, LATEST, Coded, send, cancel, Next, Refuses, take, cond_both, elements}
use Rattle.uv_ids.specs.declared.seen.Callback.TheVariants as callback
use Rattle.uv_ids.specs.declared.seen.Site.TheVariants as site
use Rattle.uv_records.specs.declared.lists.WatcherKind.TheVariants as watcher
use Rattle.uv_records.specs.Handles as records
use Rattle.uv_records.specs.Names as names
use Rattle.uv_script.specs.declared.op.Op.TheVariants as op
use Rattle.uv_script.specs.declared.op.MainOp.TheVariants as main
use Rattle.uv_work.specs.declared.content.Content.TheVariants as content
use Rattle.uv_model.specs.Ops as ops
use Rattle.uv_model.specs.Next as steps
use Rattle.uv_model.specs.Next.{next}
use Rattle.uv_model.proofs.Found.{found_both}
use Rattle.uv_alike.proofs.Ops.{first_due_held, front_held, live_held, request_held as front_request_held}
use Rattle.uv_alike.specs.Contents.{name_in}

-- ---- what is kept

abbrev pub Keeps : (List Named → Slots Content → Type 0) → State → Type 0
Keeps P s = P s.names s.arena

abbrev pub StaysKept : (List Named → Slots Content → Type 0) → Next → Type 0
StaysKept P (Moves t line) = Keeps P t
StaysKept P (Refuses why) = Unit {0}

-- a name isn't bound to anything that is held
abbrev pub IsLoose : List Named → Slots Content → Var → Type 0
IsLoose ns a v = (id : Id) (x : Content) → (names.named ns v.0).id ≡ Some id → held a.slots id ≡ Some x → ⊥

-- the repeat of what is held
abbrev pub repeat_in : Content → ℕ
repeat_in (content.Handle h) = h.repeat
repeat_in (content.Request r) = 0

-- the repeat that an op sets
abbrev pub op_repeat : Op → Option ℕ
op_repeat (op.Start v timeout repeat) = Some repeat
op_repeat (op.SetRepeat v repeat) = Some repeat
op_repeat o = None

-- a repeat stays, or is one of the script
abbrev pub RepeatsAs : (ℕ → Type 0) → Content → Content → Type 0
RepeatsAs Repeats x y = (repeat_in y ≡ repeat_in x) ⊎ Repeats (repeat_in y)

-- this is kept by each change that a step from this state may make
pub record IsKept (p : Program) (May : Var → Type 0) (Repeats : ℕ → Type 0) (P : List Named → Slots Content → Type 0) (s : State) : Type 0 where
  -- each op of the script names one of the names of which this holds
  pub may : (at : Site) (o : Op) (v : Var) → op_at p at ≡ Some o → op_name o ≡ Some v → May v
  -- and each repeat that one sets is such
  pub repeats : (at : Site) (o : Op) (n : ℕ) → op_at p at ≡ Some o → op_repeat o ≡ Some n → Repeats n
  -- a call of a name is counted
  pub counted : (ns : List Named) (a : Slots Content) (v : Var) (c : Calls) → P ns a
      → P (slice_set ns v.0 (record (names.named ns v.0) { calls = c })) a
  -- what is held turns into something of the same name
  pub turned : (ns : List Named) (a : Slots Content) (id : Id) (x y : Content) → held a.slots id ≡ Some x → name_in y ≡ name_in x
      → RepeatsAs Repeats x y → P ns a
      → P ns (record a { slots = with_held a.slots id y })
  -- something is made under a name, which is bound to it
  pub made : (ns : List Named) (a : Slots Content) (v : Var) (id : Id) (x : Content) → May v → name_in x ≡ v → repeat_in x ≡ 0
      → IsLoose ns a v → next_free a ≡ Some id
      → P ns a → P (slice_set ns v.0 (record (names.named ns v.0) { id = Some id })) (taken id x a)
  -- what the state holds is freed
  pub freed : (id : Id) (x : Content) → held s.arena.slots id ≡ Some x → P s.names s.arena
      → P s.names (freed (arena_size p).last_generation id s.arena)

-- ---- what is held

handle_held : (c : Option Content) (h : HandleRecord) → handle_in c ≡ Some h → c ≡ Some (content.Handle h)
handle_held c h e = grind arith

request_held : (c : Option Content) (r : Request) → request_in c ≡ Some r → c ≡ Some (content.Request r)
request_held c r e = grind arith

held_now : (slots : List (Slot Content)) (id : Id) (x y : Content) → held slots id ≡ Some x → held (with_held slots id y) id ≡ Some y
held_now slots id x y e = grind (arith, elements)

handle_now : (s : State) (id : Id) (h x : HandleRecord) → handle s id ≡ Some h → handle (with_handle s id x) id ≡ Some x
handle_now s id h x e = ap handle_in (held_now s.arena.slots id _ (content.Handle x) (handle_held (held s.arena.slots id) h e))

live_request_held : (s : State) (v : Var) (t : Id × Request) → live_request s v ≡ Ok t → request s t.0 ≡ Some t.1
live_request_held s v t e = grind arith

work_held : (s : State) (w : Option (Option Id)) (t : Id × Request) → steps.work_of s w ≡ Ok t → request s t.0 ≡ Some t.1
work_held s w t e = grind arith

not_live : (s : State) (v : Var) → live s v ≡ None → IsLoose s.names s.arena v
not_live s v e id x bound holds = grind arith

module _ (p : Program) (May : Var → Type 0) (Repeats : ℕ → Type 0) (P : List Named → Slots Content → Type 0) (origin : State)
    (k : IsKept p May Repeats P origin) where
  set_kept : (s : State) (id : Id) (h x : HandleRecord) → handle s id ≡ Some h → x.name ≡ h.name →
      RepeatsAs Repeats (content.Handle h) (content.Handle x) → Keeps P s → Keeps P (with_handle s id x)
  set_kept s id h x e same again kept = k.turned s.names s.arena id _ (content.Handle x) (handle_held (held s.arena.slots id) h e) same again kept

  handle_kept : (s : State) (id : Id) (h x : HandleRecord) → handle s id ≡ Some h → x.name ≡ h.name → x.repeat ≡ h.repeat → Keeps P s →
      Keeps P (with_handle s id x)
  handle_kept s id h x e same again kept = set_kept s id h x e same (inl again) kept

  request_kept : (s : State) (id : Id) (r x : Request) → request s id ≡ Some r → x.name ≡ r.name → Keeps P s → Keeps P (with_request s id x)
  request_kept s id r x e same kept =
      k.turned s.names s.arena id _ (content.Request x) (request_held (held s.arena.slots id) r e) same (inl refl) kept

  -- ---- the ops

  restarted_kept : (s : State) (id : Id) (h x : HandleRecord) → handle s id ≡ Some x → h.name ≡ x.name → h.repeat ≡ x.repeat → Keeps P s →
      Keeps P (restarted s id h)
  restarted_kept s id h x e same again kept = cond_both (h.repeat == 0) s _ (Keeps P) (λ never. kept)
      (λ more. handle_kept s id x _ e same again kept)

  stopped_kept : (s : State) (id : Id) (h : HandleRecord) → handle s id ≡ Some h → Keeps P s → Keeps P (stopped s id h)
  stopped_kept s id h e kept = handle_kept s id h (records.stopped h) e refl refl kept

  stopped_now : (s : State) (id : Id) (h : HandleRecord) → handle s id ≡ Some h → handle (stopped s id h) id ≡ Some (records.stopped h)
  stopped_now s id h e = handle_now s id h (records.stopped h) e

  on_handle_kept : (s : State) (v : Var) (why : HandleRecord → Option Code) (f : Id → HandleRecord → ops.Done) → Keeps P s →
      ((id : Id) (h : HandleRecord) → handle s id ≡ Some h → Keeps P (f id h).state) → Keeps P (ops.on_handle s (live_handle s v) why f).state
  on_handle_kept s v why f kept each = by (live_handle s v) refl where
    by : (t : Result (Id × HandleRecord) Code) → live_handle s v ≡ t → Keeps P (ops.on_handle s t why f).state
    by (Err code) e = kept
    by (Ok t) e = found_both (why t.1) _ (f t.0 t.1) (λ (d : ops.Done). Keeps P d.state) (λ code refused. kept)
        (λ may. each t.0 t.1 (live_held s v t e))

  make_kept : (s : State) (v : Var) (made : Id → State) → Keeps P s →
      ((id : Id) → IsLoose s.names s.arena v → next_free s.arena ≡ Some id → Keeps P (made id)) → Keeps P (ops.make s (live s v) made).state
  make_kept s v made kept each = by (live s v) refl where
    by : (t : Option (Id × Content)) → live s v ≡ t → Keeps P (ops.make s t made).state
    by (Some t) e = kept
    by None e = found_both (next_free s.arena) _ _ (λ (d : ops.Done). Keeps P d.state) (λ id there. each id (not_live s v e) there) (λ full. kept)

  new_kept : (s : State) (v : Var) (kind : Kind) (id : Id) → May v → IsLoose s.names s.arena v → next_free s.arena ≡ Some id → Keeps P s →
      Keeps P (ops.with_new s v kind id)
  new_kept s v kind id may loose there kept =
      let made = k.made s.names s.arena v id (content.Handle (inited v kind)) may refl refl loose there kept in
      cond_both (is_async kind) _ _ (λ (t : State). Keeps P (ops.bound_to t v id)) (λ on. made) (λ off. made)

  cancel_kept : (s : State) (v : Var) → Keeps P s → Keeps P (cancel s (live_request s v)).state
  cancel_kept s v kept = by (live_request s v) refl where
    by : (t : Result (Id × Request) Code) → live_request s v ≡ t → Keeps P (cancel s t).state
    by (Err code) e = kept
    by (Ok t) e = cond_both (list_any (same_id t.0) s.waiting) _ _ (λ (d : ops.Done). Keeps P d.state)
        (λ waits. request_kept s t.0 t.1 _ (live_request_held s v t e) refl kept) (λ not. kept)

  watcher_kept : (s : State) (q : Option WatcherKind) (id : Id) (h : HandleRecord) → handle s id ≡ Some h → Keeps P s →
      Keeps P (found_or q (λ q. ops.watcher_started s q id h) (with_handle s id (activated h)))
  watcher_kept s q id h e kept = found_both q _ _ (Keeps P) (λ q there. handle_kept s id h (activated h) e refl refl kept)
      (λ none. handle_kept s id h (activated h) e refl refl kept)

  send_kept : (s : State) (v : Var) → Keeps P s → Keeps P (send s (live_handle s v)).state
  send_kept s v kept = by (live_handle s v) refl where
    by : (t : Result (Id × HandleRecord) Code) → live_handle s v ≡ t → Keeps P (send s t).state
    by (Err code) e = kept
    by (Ok t) e = found_both (send_refusal t.1) _ _ (λ (c : Coded). Keeps P c.state) (λ code refused. kept)
        (λ may. handle_kept s t.0 t.1 (records.sent t.1) (live_held s v t e) refl refl kept)

  op_kept : (s : State) (o : Op) → ((v : Var) → op_name o ≡ Some v → May v) → ((n : ℕ) → op_repeat o ≡ Some n → Repeats n) → Keeps P s →
      Keeps P (do_op s o).state
  op_kept s (op.Init v kind) may again kept = make_kept s v _ kept (λ id loose there. new_kept s v kind id (may v refl) loose there kept)
  op_kept s (op.Queue v task) may again kept = make_kept s v _ kept
      (λ id loose there. k.made s.names s.arena v id (content.Request (queued v task)) (may v refl) refl refl loose there kept)
  op_kept s (op.Cancel v) may again kept = cancel_kept s v kept
  op_kept s (op.Start v timeout repeat) may again kept = on_handle_kept s v start_timer_refusal _ kept
      (λ id h e. set_kept (stopped s id h) id (records.stopped h) _ (stopped_now s id h e) refl (inr (again repeat refl))
      (stopped_kept s id h e kept))
  op_kept s (op.StartWatcher v) may again kept = on_handle_kept s v start_watcher_refusal _ kept
      (λ id h e. cond_both h.active s _ (Keeps P) (λ on. kept) (λ off. watcher_kept s (watcher_kind h.kind) id h e kept))
  op_kept s (op.Stop v) may again kept = on_handle_kept s v stop_refusal _ kept (λ id h e. stopped_kept s id h e kept)
  op_kept s (op.Again v) may again kept = on_handle_kept s v again_refusal _ kept
      (λ id h e. restarted_kept (stopped s id h) id h (records.stopped h) (stopped_now s id h e) refl refl (stopped_kept s id h e kept))
  op_kept s (op.SetRepeat v n) may again kept = on_handle_kept s v timer_refusal _ kept
      (λ id h e. set_kept s id h (repeating n h) e refl (inr (again n refl)) kept)
  op_kept s (op.DueIn v) may again kept = on_handle_kept s v timer_refusal _ kept (λ id h e. kept)
  op_kept s (op.Close v) may again kept = on_handle_kept s v close_refusal _ kept (λ id h e. handle_kept s id h (records.closed h) e refl refl kept)
  op_kept s (op.Ref v) may again kept = on_handle_kept s v no_refusal _ kept (λ id h e. handle_kept s id h (referenced_as true h) e refl refl kept)
  op_kept s (op.Unref v) may again kept = on_handle_kept s v no_refusal _ kept (λ id h e. handle_kept s id h (referenced_as false h) e refl refl kept)
  op_kept s (op.HasRef v) may again kept = on_handle_kept s v no_refusal _ kept (λ id h e. kept)
  op_kept s (op.IsActive v) may again kept = on_handle_kept s v no_refusal _ kept (λ id h e. kept)
  op_kept s (op.IsClosing v) may again kept = on_handle_kept s v no_refusal _ kept (λ id h e. kept)
  op_kept s (op.Send v) may again kept = send_kept s v kept
  op_kept s op.StopLoop may again kept = kept
  op_kept s op.UpdateTime may again kept = kept
  op_kept s op.Now may again kept = kept
  op_kept s op.IsAlive may again kept = kept
  op_kept s op.Timeout may again kept = kept
  op_kept s op.CloseLoop may again kept = cond_both (ops.is_in_use s) _ _ (λ (d : ops.Done). Keeps P d.state) (λ used. kept) (λ free. kept)

-- ---- a step

module _ (p : Program) (May : Var → Type 0) (Repeats : ℕ → Type 0) (P : List Named → Slots Content → Type 0) (s : State)
    (k : IsKept p May Repeats P s) where
  -- a callback of a name begins
  called : (t : State) (kind : Callback) (v : Var) → Keeps P t →
      Keeps P (with_named t v (record (named t v) { calls = names.counted kind (named t v).calls }))
  called t kind v kept = k.counted t.names t.arena v _ kept

  turn_kept : (run : Run) (turn : Turn) → Keeps P s → StaysKept P (steps.turns (order_of p) s run turn)
  turn_kept run turn kept = by (steps.way (order_of p) run.mode (steps.goes s) turn) where
    by : (w : Way) → StaysKept P (steps.goes_by (order_of p) s run w)
    by (ToTimers part) = kept
    by ToPending = kept
    by ToEnd = kept

  fire_kept : (run : Run) (part : TimersOf) → Keeps P s → StaysKept P (steps.fire p s run part)
  fire_kept run part kept = found_both (front s s.ready) _ _ (StaysKept P)
      (λ t e. called (restarted (record s { ready = drop 1 s.ready }) t.0 t.1) callback.Handle t.1.name
      (restarted_kept p May Repeats P s k (record s { ready = drop 1 s.ready }) t.0 t.1 t.1 (front_held s s.ready t e) refl refl kept))
      (λ none. turn_kept run (Behind part) kept)

  call_due_kept : (run : Run) (part : TimersOf) → Keeps P s → StaysKept P (steps.call_due p s run part)
  call_due_kept run part kept = found_both (steps.first_due s s.timers) _ _ (StaysKept P)
      (λ t e. let holds = first_due_held s s.timers t e in called (restarted (stopped s t.0 t.1) t.0 t.1) callback.Handle t.1.name
      (restarted_kept p May Repeats P s k (stopped s t.0 t.1) t.0 t.1 (records.stopped t.1)
      (stopped_now p May Repeats P s k s t.0 t.1 holds) refl refl
      (stopped_kept p May Repeats P s k s t.0 t.1 holds kept)))
      (λ none. turn_kept run (Behind part) kept)

  collect_kept : (run : Run) (part : TimersOf) → Keeps P s → StaysKept P (steps.collect p s run part)
  collect_kept run part kept = found_both (steps.first_due s s.timers) _ _ (StaysKept P)
      (λ t e. handle_kept p May Repeats P s k s t.0 t.1 (records.stopped t.1) (first_due_held s s.timers t e) refl refl kept)
      (λ none. fire_kept run part kept)

  timers_kept : (run : Run) (part : TimersOf) (timing : Timing) → Keeps P s → StaysKept P (steps.timers p s run part timing)
  timers_kept run part Collecting kept = cond_both (from_heap p) _ _ (StaysKept P) (λ heap. call_due_kept run part kept)
      (λ ready. collect_kept run part kept)
  timers_kept run part Firing kept = fire_kept run part kept

  after_walk_kept : (run : Run) (kind : WatcherKind) → Keeps P s → StaysKept P (steps.after_walk s run kind)
  after_walk_kept run watcher.Idle kept = kept
  after_walk_kept run watcher.Prepare kept = kept
  after_walk_kept run watcher.Check kept = kept
  after_walk_kept run watcher.Async kept = kept

  walk_kept : (run : Run) (kind : WatcherKind) → Keeps P s → StaysKept P (steps.walk p s run kind)
  walk_kept run kind kept = found_both (front s (watched s kind).yet) _ _ (StaysKept P)
      (λ t e. called (steps.front_moved s kind t.0) callback.Handle t.1.name kept) (λ none. after_walk_kept run kind kept)

  async_kept : (run : Run) → Keeps P s → StaysKept P (steps.walk_async p s run)
  async_kept run kept = found_both (front s s.watchers.async.yet) _ _ (StaysKept P)
      (λ t e. cond_both t.1.pending _ _ (StaysKept P)
      (λ on. called (with_handle (steps.front_moved s watcher.Async t.0) t.0 (records.woken t.1)) callback.Handle t.1.name
      (handle_kept p May Repeats P s k s t.0 t.1 (records.woken t.1) (front_held s s.watchers.async.yet t e) refl refl kept)) (λ off. kept))
      (λ none. after_walk_kept run watcher.Async kept)

  in_walk_kept : (run : Run) (kind : WatcherKind) → Keeps P s → StaysKept P (steps.in_walk p s run kind)
  in_walk_kept run watcher.Async kept = async_kept run kept
  in_walk_kept run watcher.Idle kept = walk_kept run watcher.Idle kept
  in_walk_kept run watcher.Prepare kept = walk_kept run watcher.Prepare kept
  in_walk_kept run watcher.Check kept = walk_kept run watcher.Check kept

  close_kept : (run : Run) → Keeps P s → StaysKept P (steps.close_front p s run)
  close_kept run kept = found_both (front s s.closing.yet) _ _ (StaysKept P)
      (λ t e. called (record s { arena = freed (arena_size p).last_generation t.0 s.arena }) callback.Close t.1.name
      (k.freed t.0 _ (handle_held (held s.arena.slots t.0) t.1 (front_held s s.closing.yet t e)) kept))
      (λ none. turn_kept run BehindClosing kept)

  after_kept : (run : Run) → Keeps P s → StaysKept P (steps.collect_request p s run)
  after_kept run kept = found_both (front_request s s.done.yet) _ _ (StaysKept P)
      (λ t e. called (record s { arena = freed (arena_size p).last_generation t.0 s.arena }) callback.After t.1.name
      (k.freed t.0 _ (request_held (held s.arena.slots t.0) t.1 (front_request_held s s.done.yet t e)) kept))
      (λ none. kept)

  stage_kept : (run : Run) (stage : Stage) → Keeps P s → StaysKept P (steps.stage_step p s run stage)
  stage_kept run Entry kept = turn_kept run AtEntry kept
  stage_kept run Pending kept = kept
  stage_kept run (Walking kind) kept = in_walk_kept run kind kept
  stage_kept run (Poll deadline) kept = cond_both (steps.may_leave s deadline) _ _ (StaysKept P) (λ left. kept) (λ blocked. tt)
  stage_kept run (Polled true) kept = kept
  stage_kept run (Polled false) kept = kept
  stage_kept run Done kept = after_kept run kept
  stage_kept run DoneUnwoken kept = kept
  stage_kept run Closing kept = close_kept run kept
  stage_kept run (Timers part when) kept = timers_kept run part when kept

  -- an op at a place of the script
  at_kept : (at : Site) (o : Op) → op_at p at ≡ Some o → Keeps P s → Keeps P (do_op s o).state
  at_kept at o e kept = op_kept p May Repeats P s k s o (λ v. k.may at o v e) (λ n. k.repeats at o n e) kept

  body_kept : (run : Run) (body : Body) (x : Option CallbackLine) → slice_get (lines_in p body.callback body.name) body.next ≡ x → Keeps P s →
      StaysKept P (steps.body_step p s run body x)
  body_kept run body None e kept = kept
  body_kept run body (Some line) e kept =
      at_kept (site.In body.callback body.name body.next) line.op (ap (option_map (λ (l : CallbackLine). l.op)) e) kept

  run_kept : (run : Run) (body : Option Body) → Keeps P s → StaysKept P (steps.run_step p s run body)
  run_kept run None kept = stage_kept run run.stage kept
  run_kept run (Some body) kept = body_kept run body (slice_get (lines_in p body.callback body.name) body.next) refl kept

  main_kept : (line : ℕ) (x : Option MainOp) → slice_get p.main line ≡ x → Keeps P s → StaysKept P (steps.main_step (order_of p) s line x)
  main_kept line None e kept = tt
  main_kept line (Some (main.Run mode)) e kept = cond_both (steps.refreshes (order_of p) mode) (refreshed s) s (Keeps P) (λ on. kept) (λ off. kept)
  main_kept line (Some (main.Op o)) e kept = at_kept (site.Main line) o (ap main_op e) kept

  loop_kept : (place : Place) → Keeps P s → StaysKept P (steps.loop_step p s place)
  loop_kept (Main line) kept = main_kept line (slice_get p.main line) refl kept
  loop_kept (Running run) kept = run_kept run run.body kept

  take_kept : (w : ℕ) (t : Result (Id × Request) Why) → Keeps P s → StaysKept P (take s w t)
  take_kept w (Err y) kept = tt
  take_kept w (Ok t) kept = kept

  finish_kept : (w : ℕ) (t : Result (Id × Request) Why) → steps.work_of s (slice_get s.running w) ≡ t → Keeps P s → StaysKept P (steps.finish s w t)
  finish_kept w (Err y) e kept = tt
  finish_kept w (Ok t) e kept = request_kept p May Repeats P s k s t.0 t.1 _ (work_held s (slice_get s.running w) t e) refl kept

  call_io_kept : (v : Var) (r : Option Run) (o : Option Id) → Keeps P s → StaysKept P (steps.call_io p s v r o)
  call_io_kept v None None kept = tt
  call_io_kept v None (Some id) kept = tt
  call_io_kept v (Some run) None kept = tt
  call_io_kept v (Some run) (Some id) kept = called s callback.Handle v kept

  pub next_kept : (e : Event) → Keeps P s → StaysKept P (next p s e)
  unfolding next
  next_kept Loop kept = loop_kept s.place kept
  next_kept (Take w) kept = take_kept w (steps.next_work s (slice_get s.running w)) kept
  next_kept (Finish w) kept = finish_kept w (steps.work_of s (slice_get s.running w)) refl kept
  next_kept (Cancel v) kept = cond_both (nat_lt v.0 (length s.names)) _ _ (StaysKept P)
      (λ there. cancel_kept p May Repeats P s k s v kept) (λ past. tt)
  next_kept (Send v) kept = cond_both (nat_lt v.0 (length s.names)) _ _ (StaysKept P) (λ there. send_kept p May Repeats P s k s v kept) (λ past. tt)
  next_kept (Io v) kept = cond_both (nat_lt v.0 (length s.names)) _ _ (StaysKept P)
      (λ there. call_io_kept v (steps.io_run p s s.place) (steps.io_handle (live_handle s v)) kept) (λ past. tt)
  next_kept (Tick ms) kept = cond_both (nat_le (s.clock + ms) LATEST) _ _ (StaysKept P) (λ less. kept) (λ past. tt)

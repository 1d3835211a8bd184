-- What the parts of a step are from a changed state: who is found, what is put, timers, names, and each op.
use Rattle.uv_alike.proofs.Names.{if◌then◌else◌, ◌≡◌, ◌++◌, ℕ, ◌+◌, ◌==◌, ◌&&◌, List, [], ◌∷◌, drop, Bool, true, false, Option, Some, None, Result, Ok, Err, refl, ap, ap₂, sym, ◌∙◌, arith, nat_le, list_any, Id, Due, due_cmp, match_ordering, Ordering, Less, Equal, Greater, Var, Kind, Code, Slots, Content, State, Program, HandleRecord, Request, Outcome, Task, WatcherKind, Op, same_id, without_id, handle, request, handle_in, request_in, held, front, front_request, with_id, with_held, with_handle, with_request, named, live, live_handle, live_request, live_id, as_handle, as_request, with_timer, without_timer, taken_off, stopped, started, restarted, begun_at, found_or, is_async, inited, activated, repeating, referenced_as, watcher_kind, no_refusal, timer_refusal, start_timer_refusal, start_watcher_refusal, stop_refusal, again_refusal, close_refusal, send_refusal, with_first, with_last, queued, next_free, taken, freed, arena_size, with_watched, watched, refreshed, refuses, do_op, ◌||◌, ◌-◌, map, option_map, is_some, min, drop-map, map-append, set-set, Mode, Default, Once, Nowait, Site, op_at, only_if, is_startable, invalid_if, is_timer, Cancelled, has_some, LONGEST_POLL, is_alive, has_closing, has_idle, until_first, backend_timeout, poll_timeout, deadline_of, has_passed, Coded, first_due, collected, Change, changed, changed_handle, changed_request, changed_content, changed_entry, changed_live, changed_arena, changed_walk, changed_op, changed_answer, cancels, cancels_op, reads_clock, op_reads_clock, Hides, IsWhole, Stage, Poll, Polled, Run, Body, Place, Main, Running}
use Rattle.std.specs.BTreeMap.{is_at}
use Rattle.uv_ids.specs.declared.code.Answer.TheVariants as answer
use Rattle.uv_ids.specs.declared.code.Code.TheVariants.{Ok as Success, Efull}
use Rattle.uv_script.specs.declared.op.Op.TheVariants as op
use Rattle.uv_records.specs.Dues as dues
use Rattle.uv_records.specs.Dues.{due_after}
use Rattle.uv_records.specs.Handles as records
use Rattle.uv_records.specs.declared.lists.WatcherKind.TheVariants as watcher
use Rattle.uv_work.specs.declared.content.Content.TheVariants as content
use Rattle.uv_model.specs.Ops as ops
use Rattle.uv_model.specs.Next as steps
use Rattle.uv_alike.proofs.Cases.{if_shift}

-- ---- whether it asks who is done

-- where no body is under way: the poll asks whether a request is done, and behind a woken one those that are done are set aside
abbrev pub stage_asks_done : Stage → Bool
stage_asks_done (Poll deadline) = true
stage_asks_done (Polled woken) = woken
stage_asks_done _ = false

abbrev pub run_asks_done : Run → Option Body → Bool
run_asks_done run None = stage_asks_done run.stage
run_asks_done run (Some body) = false

abbrev pub place_asks_done : Place → Bool
place_asks_done (Main line) = false
place_asks_done (Running run) = run_asks_done run run.body

-- ---- what is found, and found changed

pub by_test : {B D : Type 0} (left right : B → D) (b : Bool) (x y x' y' : B) → left x' ≡ right x → left y' ≡ right y →
    left (if b then x' else y') ≡ right (if b then x else y)
by_test left right b x y x' y' h k = grind arith

pub found_changed : {A A' B D : Type 0} (left right : B → D) (g : A → A') (o : Option A) (o' : Option A') (f : A → B) (f' : A' → B)
    (other other' : B) →
    o' ≡ option_map g o → ((x : A) → o ≡ Some x → left (f' (g x)) ≡ right (f x)) → left other' ≡ right other →
    left (found_or o' f' other') ≡ right (found_or o f other)
found_changed left right g o o' f f' other other' same h k = grind arith

pub front_held : (s : State) (ids : List Id) (t : Id × HandleRecord) → front s ids ≡ Some t → handle s t.0 ≡ Some t.1
front_held s ids t e = grind arith

pub first_due_held : (s : State) (ts : List (Due × Id)) (t : Id × HandleRecord) → first_due s ts ≡ Some t → handle s t.0 ≡ Some t.1
first_due_held s ts t e = grind arith

held_as_handle : (s : State) (o : Option Id) (t : Id × HandleRecord) → as_handle (live_id s o) ≡ Ok t → handle s t.0 ≡ Some t.1
held_as_handle s o t e = grind arith

-- a live handle is held
pub live_held : (s : State) (v : Var) (t : Id × HandleRecord) → live_handle s v ≡ Ok t → handle s t.0 ≡ Some t.1
live_held s v t e = held_as_handle s (named s v).id t e

pub request_held : (s : State) (ids : List Id) (t : Id × Request) → front_request s ids ≡ Some t → request s t.0 ≡ Some t.1
request_held s ids t e = grind arith

-- what holds a handle or a request holds something
pub holds_handle : {P : Type 0} (o : Option Content) (h : HandleRecord) → handle_in o ≡ Some h → (o ≡ Some (content.Handle h) → P) → P
holds_handle o h e each = grind arith

pub holds_request : {P : Type 0} (o : Option Content) (r : Request) → request_in o ≡ Some r → (o ≡ Some (content.Request r) → P) → P
holds_request o r e each = grind arith

is_a_timer : (timer : Bool) (why : Option Code) → only_if timer why ≡ None → timer ≡ true
is_a_timer timer why e = grind arith

starts_no_timer : (k : Kind) (closing : Bool) → only_if (is_startable k) (invalid_if closing) ≡ None → is_timer k ≡ false
starts_no_timer k closing e = grind arith

module _ (c : Change) where
  pub some_changed : (ids : List Id) → has_some (map c.id ids) ≡ has_some ids
  some_changed [] = refl
  some_changed (id ∷ ids) = refl

  -- who is found
  abbrev pub changed_pair : Id × HandleRecord → Id × HandleRecord
  changed_pair t = (c.id t.0, changed_handle c t.1)

  abbrev pub changed_job : Id × Request → Id × Request
  changed_job t = (c.id t.0, changed_request c t.1)

  abbrev pub found_handle : Result (Id × HandleRecord) Code → Result (Id × HandleRecord) Code
  found_handle (Ok t) = Ok (changed_pair t)
  found_handle (Err code) = Err code

  abbrev pub found_request : {E : Type 0} → Result (Id × Request) E → Result (Id × Request) E
  found_request (Ok t) = Ok (changed_job t)
  found_request (Err why) = Err why

  -- ---- what a step may ask

  abbrev done_changed : Option Op → ops.Done → ops.Done
  done_changed o x = record { state = changed c x.state; answer = changed_answer c x.answer o }

  abbrev coded_changed : Coded → Coded
  coded_changed x = record { state = changed c x.state; code = x.code }

  -- what stands in the slot of an id may be turned into another handle
  abbrev pub Puts : State → Id → Type 0
  Puts u id = (x : Content) → with_held (c.slots u.arena.slots) (c.id id) (changed_content c x) ≡ c.slots (with_held u.arena.slots id x)

  -- the slot of an id may be freed
  abbrev pub Frees : Program → State → Id → Type 0
  Frees p u id = freed (arena_size p).last_generation (c.id id) (changed_arena c u.arena)
      ≡ changed_arena c (freed (arena_size p).last_generation id u.arena)

  -- a cancel goes as it does; so does what reads the clock, and what asks who is done
  abbrev pub Cancels : State → Type 0
  Cancels s = (o : Option Op) (v : Var) → ops.cancel (changed c s) (live_request (changed c s) (c.var v))
      ≡ done_changed o (ops.cancel s (live_request s v))

  abbrev pub Clocks : State → Type 0
  Clocks s = (c.clock s.clock ≡ c.times.time s.clock) × ((n : ℕ) → nat_le (c.times.time n) (c.clock s.clock) ≡ nat_le n s.clock)

  abbrev pub AreDone : State → Type 0
  AreDone s = (c.ends [] ≡ []) × (c.ends s.done.list ≡ map c.id s.done.list)

  -- what the loop's next own step reads and writes, and asks only where it has to
  pub record Reads (p : Program) (s : State) : Type 0 where
    pub handles : (id : Id) → handle (changed c s) (c.id id) ≡ option_map (changed_handle c) (handle s id)
    pub puts : (id : Id) (h : HandleRecord) → handle s id ≡ Some h → Puts s id
    pub frees : (id : Id) (h : HandleRecord) → handle s id ≡ Some h → Frees p s id
    pub found : front_request (changed c s) (map c.id s.done.yet) ≡ option_map changed_job (front_request s s.done.yet)
    pub collects : (t : Id × Request) → front_request s s.done.yet ≡ Some t → Frees p s t.0
    pub lives : (v : Var) → live_handle (changed c s) (c.var v) ≡ found_handle (live_handle s v)
    pub is_live : (v : Var) → is_some (live (changed c s) (c.var v)) ≡ is_some (live s v)
    pub queues : (id : Id) → c.waits (s.waiting ++ id ∷ []) ≡ c.waits s.waiting ++ c.id id ∷ []
    pub cancelled : cancels p s ≡ true → Cancels s
    pub clocks : reads_clock p s ≡ true → Clocks s
    pub done : place_asks_done s.place ≡ true → AreDone s

  -- ---- lists of ids, and the order of timers

  module _ (p : Program) (s : State) (hides : Hides c p s) where
    without_changed : (ids : List Id) (id : Id) → without_id (map c.id ids) (c.id id) ≡ map c.id (without_id ids id)
    without_changed [] id = refl
    without_changed (x ∷ xs) id = grind (arith, if_shift, (without_changed xs id), hides.same)

    insert_changed : (ts : List (Due × Id)) (due : Due) (id : Id) →
        with_timer (map (changed_entry c) ts) (c.times.due due) (c.id id) ≡ map (changed_entry c) (with_timer ts due id)
    insert_changed [] due id = refl
    insert_changed (t ∷ ts) due id =
        ap (λ x. match_ordering x ((c.times.due due, c.id id) ∷ changed_entry c t ∷ map (changed_entry c) ts)
        ((c.times.due t.0, c.id id) ∷ map (changed_entry c) ts)
        (changed_entry c t ∷ with_timer (map (changed_entry c) ts) (c.times.due due) (c.id id))) (hides.times.order due t.0)
        ∙ by (due_cmp due t.0) (insert_changed ts due id) where
          by : (x : Ordering) → with_timer (map (changed_entry c) ts) (c.times.due due) (c.id id) ≡ map (changed_entry c) (with_timer ts due id) →
              match_ordering x ((c.times.due due, c.id id) ∷ changed_entry c t ∷ map (changed_entry c) ts)
              ((c.times.due t.0, c.id id) ∷ map (changed_entry c) ts)
              (changed_entry c t ∷ with_timer (map (changed_entry c) ts) (c.times.due due) (c.id id))
              ≡ map (changed_entry c) (match_ordering x ((due, id) ∷ t ∷ ts) ((t.0, id) ∷ ts) (t ∷ with_timer ts due id))
          by Less h = refl
          by Equal h = refl
          by Greater h = ap (λ us. changed_entry c t ∷ us) h

    remove_changed : (ts : List (Due × Id)) (due : Due) →
        without_timer (map (changed_entry c) ts) (c.times.due due) ≡ map (changed_entry c) (without_timer ts due)
    remove_changed [] due = refl
    remove_changed (t ∷ ts) due = if_shift (map (changed_entry c)) (is_at (due_cmp due) t.0) (is_at (due_cmp (c.times.due due)) (c.times.due t.0))
        _ _ _ _
        (ap is_equal (hides.times.order due t.0)) refl (ap (λ us. changed_entry c t ∷ us) (remove_changed ts due)) where
          is_equal : Ordering → Bool
          is_equal x = is_at (λ (u : Unit {0}). x) tt

    off_changed : (ts : List (Due × Id)) (timer active : Bool) (due due' : Due) → (timer && active ≡ true → due' ≡ c.times.due due) →
        (if timer && active then without_timer (map (changed_entry c) ts) due' else map (changed_entry c) ts)
        ≡ map (changed_entry c) (if timer && active then without_timer ts due else ts)
    off_changed ts true true due due' same = ap (without_timer (map (changed_entry c) ts)) (same refl) ∙ remove_changed ts due
    off_changed ts true false due due' same = refl
    off_changed ts false true due due' same = refl
    off_changed ts false false due due' same = refl

    -- only an active timer is on the order of timers
    due_changed : (timer active : Bool) (k : Kind) (due : Due) → is_timer k ≡ timer → timer && active ≡ true
        → c.times.due_in active k due ≡ c.times.due due
    due_changed true true k due e f = hides.times.ticks k due e
    due_changed true false k due e f = absurd (let g : ⊥ = cc in g)
    due_changed false true k due e f = absurd (let g : ⊥ = cc in g)
    due_changed false false k due e f = absurd (let g : ⊥ = cc in g)

    taken_off_changed : (u : State) (id : Id) (h : HandleRecord) → taken_off (changed c u) (c.id id) (changed_handle c h)
        ≡ changed c (taken_off u id h)
    taken_off_changed u id h =
        let due = c.times.due_in h.active h.kind h.due in
        ap (λ ts. record (taken_off (changed c u) (c.id id) (changed_handle c h)) { timers = ts })
        (off_changed u.timers (is_timer h.kind) h.active h.due due (due_changed (is_timer h.kind) h.active h.kind h.due refl))
        ∙ simp without_changed

    -- ---- a handle is put, and a timer stopped and started

    pub put_changed : (u : State) (id : Id) (h : HandleRecord) → Puts u id → with_handle (changed c u) (c.id id) (changed_handle c h)
        ≡ changed c (with_handle u id h)
    put_changed u id h puts =
        ap (λ slots. record (changed c u) { arena = record (changed_arena c u.arena) { slots = slots } }) (puts (content.Handle h))

    pub put_twice : (u : State) (id : Id) (h : HandleRecord) → Puts u id → Puts (with_handle u id h) id
    put_twice u id h puts other =
        ap (λ slots. with_held slots (c.id id) (changed_content c other)) (sym (puts (content.Handle h)))
        ∙ set-set (c.slots u.arena.slots) (c.id id).slot _ _ ∙ puts other ∙ ap c.slots (sym (set-set u.arena.slots id.slot _ _))

    pub stopped_changed : (id : Id) (h : HandleRecord) → Puts s id →
        stopped (changed c s) (c.id id) (changed_handle c h) ≡ changed c (stopped s id h)
    stopped_changed id h puts =
        ap₂ (λ u x. with_handle u (c.id id) (record (records.stopped h) { name = c.var h.name; due = x })) (taken_off_changed s id h)
        (sym (hides.times.rests false h.kind _ refl))
        ∙ put_changed (taken_off s id h) id (records.stopped h) puts

    abbrev Due_at : State → ℕ → Type 0
    Due_at u timeout = due_after (c.times.time u.time) (c.times.start u.next_start) timeout ≡ c.times.due (due_after u.time u.next_start timeout)

    abbrev Begins : HandleRecord → Type 0
    Begins h = (due : Due) → c.times.due_in true h.kind due ≡ c.times.due due

    abbrev More : State → Type 0
    More u = c.times.start (u.next_start + 1) ≡ c.times.start u.next_start + 1

    started_changed : (u : State) (id : Id) (h : HandleRecord) (timeout repeat : ℕ) → Puts u id → Due_at u timeout → Begins h → More u →
        started (changed c u) (c.id id) (changed_handle c h) timeout repeat ≡ changed c (started u id h timeout repeat)
    started_changed u id h timeout repeat puts at begins more =
        let due = due_after u.time u.next_start timeout in
        ap₂ (λ x n. with_handle (record (changed c u) { timers = with_timer (map (changed_entry c) u.timers) x (c.id id); next_start = n }) (c.id id)
        (begun_at x repeat (changed_handle c h))) at (sym more)
        ∙ ap₂ (λ ts x. with_handle (record (changed c u) { timers = ts; next_start = c.times.start (u.next_start + 1) }) (c.id id)
        (record (begun_at due repeat h) { name = c.var h.name; due = x })) (insert_changed u.timers due id) (sym (begins due))
        ∙ put_changed (record u { timers = with_timer u.timers due id; next_start = u.next_start + 1 }) id (begun_at due repeat h) puts

    pub restarted_changed : (u : State) (id : Id) (h : HandleRecord) → Puts u id → Due_at u h.repeat → Begins h → More u →
        restarted (changed c u) (c.id id) (changed_handle c h) ≡ changed c (restarted u id h)
    restarted_changed u id h puts at begins more =
        if_shift (changed c) (h.repeat == 0) (h.repeat == 0) _ _ _ _ refl refl (started_changed u id h h.repeat h.repeat puts at begins more)

    pub collected_changed : (id : Id) (h : HandleRecord) → Puts s id →
        collected (changed c s) (c.id id) (changed_handle c h) ≡ changed c (collected s id h)
    collected_changed id h puts =
        ap₂ (λ (ts : List (Due × Id)) (ids : List Id). with_handle (record (changed c s) { timers = ts; ready = ids }) (c.id id)
        (records.stopped (changed_handle c h))) (drop-map (changed_entry c) 1 s.timers) (sym (map-append c.id s.ready (id ∷ [])))
        ∙ ap (λ x. with_handle (changed c (record s { timers = drop 1 s.timers; ready = s.ready ++ id ∷ [] })) (c.id id)
        (record (records.stopped h) { name = c.var h.name; due = x })) (sym (hides.times.rests false h.kind _ refl))
        ∙ put_changed (record s { timers = drop 1 s.timers; ready = s.ready ++ id ∷ [] }) id (records.stopped h) puts

    -- ---- who is found

    with_id_changed : (id : Id) (o : Option HandleRecord) → with_id (c.id id) (option_map (changed_handle c) o)
        ≡ option_map changed_pair (with_id id o)
    with_id_changed id None = refl
    with_id_changed id (Some h) = refl

    -- ---- what is asked of all slots and of the timers

    closes : has_closing (changed c s) ≡ has_closing s
    closes = ap₂ (λ a b. a || b) (some_changed s.closing.list) (some_changed s.closing.yet)

    idles : has_idle (changed c s) ≡ has_idle s
    idles = ap₂ (λ a b. a || b) (some_changed s.watchers.idle.list) (some_changed s.watchers.idle.yet)

    pub alive : is_alive (changed c s) ≡ is_alive s
    alive = ap₂ (λ a b. a || b) hides.keeps closes

    until_changed : (ts : List (Due × Id)) → until_first (c.times.time s.time) (map (changed_entry c) ts) ≡ until_first s.time ts
    until_changed [] = refl
    until_changed (t ∷ ts) = ap (λ n. Some (min n LONGEST_POLL)) (hides.times.left t.0)

    backend_changed : backend_timeout (changed c s) ≡ backend_timeout s
    backend_changed =
        let a = alive in
        let b = idles in
        let d = closes in
        let t = until_changed s.timers in
        cc

    pub poll_changed : (m : Mode) → poll_timeout (changed c s) m ≡ poll_timeout s m
    poll_changed Nowait = refl
    poll_changed Once = ap (λ t. if s.idled then Some 0 else t) backend_changed
    poll_changed Default = backend_changed

    pub deadline_changed : (o : Option ℕ) → deadline_of (changed c s) o ≡ option_map c.times.time (deadline_of s o)
    deadline_changed None = refl
    deadline_changed (Some n) = ap Some (hides.times.waits n)

    pub woken : AreDone s → steps.is_woken (changed c s) ≡ steps.is_woken s
    woken done = ap₂ (λ a b. a || b) (ap has_some done.1 ∙ some_changed s.done.list) hides.pends

    pub passed_changed : Clocks s → (o : Option ℕ) → has_passed (c.clock s.clock) (option_map c.times.time o) ≡ has_passed s.clock o
    passed_changed clocks None = refl
    passed_changed clocks (Some n) = clocks.1 n

    pub refreshed_changed : Clocks s → refreshed (changed c s) ≡ changed c (refreshed s)
    refreshed_changed clocks = ap (λ n. record (changed c s) { time = n }) clocks.0

    -- ---- where the change is whole

    module _ (whole : IsWhole c p s) where
      one_more : (f : List Id → List Id) → ((ids : List Id) → f ids ≡ map c.id ids) → (ids : List Id) (id : Id) →
          f (ids ++ id ∷ []) ≡ f ids ++ c.id id ∷ []
      one_more f same ids id = same (ids ++ id ∷ []) ∙ map-append c.id ids (id ∷ []) ∙ ap (λ xs. xs ++ c.id id ∷ []) (sym (same ids))

      pub request_puts : (id : Id) (r : Request) → request s id ≡ Some r → Puts s id
      request_puts id r is = holds_request (held s.arena.slots id) r is (λ e x. whole.turns id (content.Request r) x e)

      request_put : (u : State) (id : Id) (r : Request) → Puts u id → with_request (changed c u) (c.id id) (changed_request c r)
          ≡ changed c (with_request u id r)
      request_put u id r puts =
          ap (λ slots. record (changed c u) { arena = record (changed_arena c u.arena) { slots = slots } }) (puts (content.Request r))

      handle_of : (o : Option Content) → handle_in (option_map (changed_content c) o) ≡ option_map (changed_handle c) (handle_in o)
      handle_of o = grind arith

      request_of : (o : Option Content) → request_in (option_map (changed_content c) o) ≡ option_map (changed_request c) (request_in o)
      request_of o = grind arith

      handle_changed : (id : Id) → handle (changed c s) (c.id id) ≡ option_map (changed_handle c) (handle s id)
      handle_changed id = ap handle_in (whole.holds id) ∙ handle_of (held s.arena.slots id)

      pub request_changed : (id : Id) → request (changed c s) (c.id id) ≡ option_map (changed_request c) (request s id)
      request_changed id = ap request_in (whole.holds id) ∙ request_of (held s.arena.slots id)

      pub with_job : (id : Id) (o : Option Request) → with_id (c.id id) (option_map (changed_request c) o) ≡ option_map changed_job (with_id id o)
      with_job id None = refl
      with_job id (Some r) = refl

      pub front_request_changed : (ids : List Id) → front_request (changed c s) (map c.id ids) ≡ option_map changed_job (front_request s ids)
      front_request_changed [] = refl
      front_request_changed (id ∷ ids) = ap (with_id (c.id id)) (request_changed id) ∙ with_job id (request s id)

      live_handle_of : (x : Option (Id × Content)) → as_handle (option_map (changed_live c) x) ≡ found_handle (as_handle x)
      live_handle_of None = refl
      live_handle_of (Some (id, content.Handle h)) = refl
      live_handle_of (Some (id, content.Request r)) = refl

      live_request_of : (x : Option (Id × Content)) → as_request (option_map (changed_live c) x) ≡ found_request (as_request x)
      live_request_of None = refl
      live_request_of (Some (id, content.Handle h)) = refl
      live_request_of (Some (id, content.Request r)) = refl

      pub live_handle_changed : (v : Var) → live_handle (changed c s) (c.var v) ≡ found_handle (live_handle s v)
      live_handle_changed v = ap as_handle (whole.lives v) ∙ live_handle_of (live s v)

      live_request_changed : (v : Var) → live_request (changed c s) (c.var v) ≡ found_request (live_request s v)
      live_request_changed v = ap as_request (whole.lives v) ∙ live_request_of (live s v)

      request_live : (v : Var) (t : Id × Request) → live_request s v ≡ Ok t → request s t.0 ≡ Some t.1
      request_live v t e = by (named s v).id t e where
        by : (o : Option Id) (t : Id × Request) → as_request (live_id s o) ≡ Ok t → request s t.0 ≡ Some t.1
        by o t e = grind arith

      -- requests and sends
      on_list_changed : (id : Id) (ids : List Id) → list_any (same_id (c.id id)) (map c.id ids) ≡ list_any (same_id id) ids
      on_list_changed id [] = refl
      on_list_changed id (x ∷ xs) = ap₂ (λ a b. a || b) (hides.same id x) (on_list_changed id xs)

      pub ended_changed : (u : State) (id : Id) (r : Request) (outcome : Outcome) → Puts u id →
          ops.ended (changed c u) (c.id id) (changed_request c r) (c.work.outcome outcome) ≡ changed c (ops.ended u id r outcome)
      ended_changed u id r outcome puts =
          ap (λ (ids : List Id). with_request (record (changed c u) { done = record (changed c u).done { list = ids } }) (c.id id)
          (record (changed_request c r) { outcome = c.work.outcome outcome })) (sym (one_more c.ends whole.ended u.done.list id))
          ∙ request_put (record u { done = with_last u.done id }) id (record r { outcome = outcome }) puts

      cancelled_changed : (id : Id) (r : Request) → Puts s id → ops.cancelled (changed c s) (c.id id) (changed_request c r)
          ≡ changed c (ops.cancelled s id r)
      cancelled_changed id r puts =
          ap₂ (λ (ids : List Id) came. ops.ended (record (changed c s) { waiting = ids }) (c.id id) (changed_request c r) came)
          (ap (λ ids. without_id ids (c.id id)) (whole.queued s.waiting) ∙ without_changed s.waiting id
          ∙ sym (whole.queued (without_id s.waiting id))) (sym hides.work.cancels)
          ∙ ended_changed (record s { waiting = without_id s.waiting id }) id r Cancelled puts

      by_cancel : (o : Option Op) (t : Result (Id × Request) Code) → ((u : Id × Request) → t ≡ Ok u → request s u.0 ≡ Some u.1) →
          ops.cancel (changed c s) (found_request t) ≡ done_changed o (ops.cancel s t)
      by_cancel o (Err code) is = refl
      by_cancel o (Ok t) is = if_shift (done_changed o) (list_any (same_id t.0) s.waiting) (list_any (same_id (c.id t.0)) (c.waits s.waiting)) _ _ _ _
          (ap (list_any (same_id (c.id t.0))) (whole.queued s.waiting) ∙ on_list_changed t.0 s.waiting)
          (ap (λ (x : State). record { state = x; answer = answer.Cancelled (c.id t.0) })
          (cancelled_changed t.0 t.1 (request_puts t.0 t.1 (is t refl))))
          refl

      pub cancel_changed : Cancels s
      cancel_changed o v = ap (ops.cancel (changed c s)) (live_request_changed v) ∙ by_cancel o (live_request s v) (request_live v)

      some_live : (x : Option (Id × Content)) → is_some (option_map (changed_live c) x) ≡ is_some x
      some_live None = refl
      some_live (Some t) = refl

      pub whole_clocks : Clocks s
      whole_clocks = (whole.clocks, whole.over)

      pub whole_done : AreDone s
      whole_done = (whole.ended [], whole.ended s.done.list)

      pub whole_reads : Reads p s
      whole_reads = record {
        handles = handle_changed;
        puts = λ id h is. holds_handle (held s.arena.slots id) h is (λ e x. whole.turns id (content.Handle h) x e);
        frees = λ id h is. holds_handle (held s.arena.slots id) h is (whole.frees id (content.Handle h));
        found = front_request_changed s.done.yet;
        collects = λ t e. holds_request (held s.arena.slots t.0) t.1 (request_held s s.done.yet t e) (whole.frees t.0 (content.Request t.1));
        lives = live_handle_changed;
        is_live = λ v. ap is_some (whole.lives v) ∙ some_live (live s v);
        queues = one_more c.waits whole.queued s.waiting;
        cancelled = λ e. cancel_changed;
        clocks = λ e. whole_clocks;
        done = λ e. whole_done;
      }

    -- ---- the loop's own step

    module _ (reads : Reads p s) where
      pub front_changed : (ids : List Id) → front (changed c s) (map c.id ids) ≡ option_map changed_pair (front s ids)
      front_changed [] = refl
      front_changed (id ∷ ids) = ap (with_id (c.id id)) (reads.handles id) ∙ with_id_changed id (handle s id)

      pub first_due_changed : (ts : List (Due × Id)) →
          first_due (changed c s) (map (changed_entry c) ts) ≡ option_map changed_pair (first_due s ts)
      first_due_changed [] = refl
      first_due_changed (t ∷ ts) = if_shift (option_map changed_pair) (nat_le t.0.at s.time) (nat_le (c.times.due t.0).at (c.times.time s.time))
          _ _ _ _
          (hides.times.passed t.0) (ap (with_id (c.id t.1)) (reads.handles t.1) ∙ with_id_changed t.1 (handle s t.1)) refl

      -- ---- ops

      by_handle : (o : Option Op) (t : Result (Id × HandleRecord) Code) (why : HandleRecord → Option Code) (f f' : Id → HandleRecord → ops.Done) →
          ((h : HandleRecord) → why (changed_handle c h) ≡ why h) →
          ((u : Id × HandleRecord) → t ≡ Ok u → why u.1 ≡ None → f' (c.id u.0) (changed_handle c u.1) ≡ done_changed o (f u.0 u.1)) →
          ops.on_handle (changed c s) (found_handle t) why f' ≡ done_changed o (ops.on_handle s t why f)
      by_handle o (Err code) why f f' same each = refl
      by_handle o (Ok u) why f f' same each =
          ap (λ w. found_or w (refuses (changed c s)) (f' (c.id u.0) (changed_handle c u.1))) (same u.1) ∙ by (why u.1) (each u refl) where
            by : (w : Option Code) → (w ≡ None → f' (c.id u.0) (changed_handle c u.1) ≡ done_changed o (f u.0 u.1)) →
                found_or w (refuses (changed c s)) (f' (c.id u.0) (changed_handle c u.1)) ≡ done_changed o (found_or w (refuses s) (f u.0 u.1))
            by None k = k refl
            by (Some code) k = refl

      on_handle_changed : (o : Option Op) (v : Var) (why : HandleRecord → Option Code) (f f' : Id → HandleRecord → ops.Done) →
          ((h : HandleRecord) → why (changed_handle c h) ≡ why h) →
          ((id : Id) (h : HandleRecord) → handle s id ≡ Some h → why h ≡ None → f' (c.id id) (changed_handle c h) ≡ done_changed o (f id h)) →
          ops.on_handle (changed c s) (live_handle (changed c s) (c.var v)) why f' ≡ done_changed o (ops.on_handle s (live_handle s v) why f)
      on_handle_changed o v why f f' same each =
          ap (λ t. ops.on_handle (changed c s) t why f') (reads.lives v)
          ∙ by_handle o (live_handle s v) why f f' same (λ u e w. each u.0 u.1 (live_held s v u e) w)

      -- what is made
      by_free : (o : Option Op) (y : Option Id) (made made' : Id → State) → ((id : Id) → y ≡ Some id → made' (c.id id) ≡ changed c (made id)) →
          found_or (option_map c.id y) (λ id. record { state = made' id; answer = answer.Id id }) (refuses (changed c s) Efull)
          ≡ done_changed o (found_or y (λ id. record { state = made id; answer = answer.Id id }) (refuses s Efull))
      by_free o None made made' each = refl
      by_free o (Some id) made made' each = ap (λ (x : State). record { state = x; answer = answer.Id (c.id id) }) (each id refl)

      by_live : (o : Option Op) (x x' : Option (Id × Content)) (made made' : Id → State) → is_some x' ≡ is_some x →
          ((id : Id) → next_free s.arena ≡ Some id → made' (c.id id) ≡ changed c (made id)) →
          ops.make (changed c s) x' made' ≡ done_changed o (ops.make s x made)
      by_live o (Some t) (Some u) made made' e each = refl
      by_live o (Some t) None made made' e each = cc e
      by_live o None (Some u) made made' e each = cc e
      by_live o None None made made' e each =
          ap (λ (x : Option Id). found_or x (λ id. record { state = made' id; answer = answer.Id id }) (refuses (changed c s) Efull)) hides.finds
          ∙ by_free o (next_free s.arena) made made' each

      make_changed : (o : Option Op) (v : Var) (made made' : Id → State) →
          ((id : Id) → next_free s.arena ≡ Some id → made' (c.id id) ≡ changed c (made id)) →
          ops.make (changed c s) (live (changed c s) (c.var v)) made' ≡ done_changed o (ops.make s (live s v) made)
      make_changed o v made made' each = by_live o (live s v) (live (changed c s) (c.var v)) made made' (reads.is_live v) each

      -- a state with the names of this one
      bound_changed : (u : State) (v : Var) (id : Id) → u.names ≡ s.names → next_free s.arena ≡ Some id →
          ops.bound_to (changed c u) (c.var v) (c.id id) ≡ changed c (ops.bound_to u v id)
      bound_changed u v id same e = rw same (ap (λ ns. record (changed c u) { names = ns }) (hides.binds v id e))

      inited_changed : (v : Var) (k : Kind) → content.Handle (inited (c.var v) k) ≡ changed_content c (content.Handle (inited v k))
      inited_changed v k = ap (λ due. content.Handle (record (inited (c.var v) k) { due = due }))
          (sym (hides.times.rests (is_async k) k _ (by k))) where
            by : (k : Kind) → is_async k && is_timer k ≡ false
            by k = grind arith

      listed_changed : (u : State) (k : Kind) (id : Id) → ops.listed_last (changed c u) k (c.id id) ≡ changed c (ops.listed_last u k id)
      listed_changed u k id = if_shift (changed c) (is_async k) (is_async k) _ u _ (changed c u) refl (search map-append) refl

      new_changed : (v : Var) (k : Kind) (id : Id) → next_free s.arena ≡ Some id →
          ops.with_new (changed c s) (c.var v) k (c.id id) ≡ changed c (ops.with_new s v k id)
      new_changed v k id e =
          let x = content.Handle (inited v k) in
          let u = record s { arena = taken id x s.arena } in
          ap (λ (y : Content). ops.bound_to
          (ops.listed_last (record (changed c s) { arena = taken (c.id id) y (changed_arena c s.arena) }) k (c.id id)) (c.var v) (c.id id))
          (inited_changed v k)
          ∙ ap (λ (a : Slots Content). ops.bound_to (ops.listed_last (record (changed c s) { arena = a }) k (c.id id)) (c.var v) (c.id id))
          (hides.takes id x e)
          ∙ ap (λ (t : State). ops.bound_to t (c.var v) (c.id id)) (listed_changed u k id)
          ∙ bound_changed (ops.listed_last u k id) v id (by (is_async k) u) e
        where
          by : (b : Bool) (u : State) → (if b then with_watched u watcher.Async (with_last (watched u watcher.Async) id) else u).names ≡ u.names
          by true u = refl
          by false u = refl

      queued_changed : (v : Var) (task : Task) (id : Id) → next_free s.arena ≡ Some id →
          ops.with_queued (changed c s) (c.var v) (c.work.task task) (c.id id) ≡ changed c (ops.with_queued s v task id)
      queued_changed v task id e =
          let x = content.Request (queued v task) in
          ap₂ (λ (a : Slots Content) (ids : List Id). ops.bound_to (record (changed c s) { arena = a; waiting = ids }) (c.var v) (c.id id))
          (ap (λ came. taken (c.id id) (content.Request (record (queued (c.var v) (c.work.task task)) { outcome = came })) (changed_arena c s.arena))
          (sym hides.work.opens) ∙ hides.takes id x e) (sym (reads.queues id))
          ∙ bound_changed (record s { arena = taken id x s.arena; waiting = s.waiting ++ id ∷ [] }) v id refl e

      by_send : (w : Option Code) (id : Id) (h : HandleRecord) → Puts s id →
          found_or w (λ code. record { state = changed c s; code = code })
          (record { state = with_handle (changed c s) (c.id id) (changed_handle c (records.sent h)); code = Success })
          ≡ coded_changed (found_or w (λ code. record { state = s; code = code })
          (record { state = with_handle s id (records.sent h); code = Success }))
      by_send None id h puts = ap (λ (x : State). record { state = x; code = Success }) (put_changed s id (records.sent h) puts)
      by_send (Some code) id h puts = refl

      by_sent : (t : Result (Id × HandleRecord) Code) → ((u : Id × HandleRecord) → t ≡ Ok u → handle s u.0 ≡ Some u.1) →
          ops.send (changed c s) (found_handle t) ≡ coded_changed (ops.send s t)
      by_sent (Err code) is = refl
      by_sent (Ok t) is = by_send (send_refusal t.1) t.0 t.1 (reads.puts t.0 t.1 (is t refl))

      pub send_changed : (v : Var) → ops.send (changed c s) (live_handle (changed c s) (c.var v)) ≡ coded_changed (ops.send s (live_handle s v))
      send_changed v = ap (ops.send (changed c s)) (reads.lives v) ∙ by_sent (live_handle s v) (live_held s v)

      -- on handles
      start_changed : (o : Option Op) (timeout repeat : ℕ) (id : Id) (h : HandleRecord) → Puts s id → Due_at s timeout → is_timer h.kind ≡ true →
          ops.start (changed c s) timeout repeat (c.id id) (changed_handle c h) ≡ done_changed o (ops.start s timeout repeat id h)
      start_changed o timeout repeat id h puts at timer =
          ap (λ (u : State). ops.succeeds (started u (c.id id) (changed_handle c h) timeout repeat)) (stopped_changed id h puts)
          ∙ ap ops.succeeds (started_changed (stopped s id h) id h timeout repeat (put_twice (taken_off s id h) id (records.stopped h) puts) at
          (λ due. hides.times.ticks h.kind due timer) hides.times.more)

      again_changed : (o : Option Op) (id : Id) (h : HandleRecord) → handle s id ≡ Some h → is_timer h.kind ≡ true →
          ops.again (changed c s) (c.id id) (changed_handle c h) ≡ done_changed o (ops.again s id h)
      again_changed o id h is timer =
          let puts = reads.puts id h is in
          ap (λ (u : State). ops.succeeds (restarted u (c.id id) (changed_handle c h))) (stopped_changed id h puts)
          ∙ ap ops.succeeds (restarted_changed (stopped s id h) id h (put_twice (taken_off s id h) id (records.stopped h) puts)
          (hides.times.repeats id h is)
          (λ due. hides.times.ticks h.kind due timer) hides.times.more)

      first_changed : (q : WatcherKind) (id : Id) →
          with_watched (changed c s) q (with_first (watched (changed c s) q) (c.id id)) ≡ changed c (with_watched s q (with_first (watched s q) id))
      first_changed watcher.Idle id = refl
      first_changed watcher.Prepare id = refl
      first_changed watcher.Check id = refl
      first_changed watcher.Async id = refl

      -- what isn't a timer is started: its due time stays
      active_changed : (u : State) (id : Id) (h : HandleRecord) → Puts u id → is_timer h.kind ≡ false →
          with_handle (changed c u) (c.id id) (activated (changed_handle c h)) ≡ changed c (with_handle u id (activated h))
      active_changed u id h puts other =
          ap (λ due. with_handle (changed c u) (c.id id) (record (activated h) { name = c.var h.name; due = due }))
          (hides.times.rests h.active h.kind h.due (by h.active (is_timer h.kind) other) ∙ sym (hides.times.rests true h.kind h.due other))
          ∙ put_changed u id (activated h) puts
        where
          by : (a b : Bool) → b ≡ false → a && b ≡ false
          by true b e = e
          by false b e = refl

      by_kind : (q : Option WatcherKind) (id : Id) (h : HandleRecord) → Puts s id → is_timer h.kind ≡ false →
          found_or q (λ q. ops.watcher_started (changed c s) q (c.id id) (changed_handle c h))
          (with_handle (changed c s) (c.id id) (activated (changed_handle c h)))
          ≡ changed c (found_or q (λ q. ops.watcher_started s q id h) (with_handle s id (activated h)))
      by_kind None id h puts other = active_changed s id h puts other
      by_kind (Some q) id h puts other = ap (λ (u : State). with_handle u (c.id id) (activated (changed_handle c h))) (first_changed q id)
          ∙ active_changed (with_watched s q (with_first (watched s q) id)) id h puts other

      start_watcher_changed : (o : Option Op) (id : Id) (h : HandleRecord) → Puts s id → is_timer h.kind ≡ false →
          ops.start_watcher (changed c s) (c.id id) (changed_handle c h) ≡ done_changed o (ops.start_watcher s id h)
      start_watcher_changed o id h puts other = ap ops.succeeds
          (if_shift (changed c) h.active h.active _ _ _ _ refl refl (by_kind (watcher_kind h.kind) id h puts other))

      closed_changed : (id : Id) (h : HandleRecord) → Puts s id → ops.closed (changed c s) (c.id id) (changed_handle c h)
          ≡ changed c (ops.closed s id h)
      closed_changed id h puts =
          ap₂ (λ (off : State) due. with_handle (record off { closing = with_first (changed_walk c s.closing) (c.id id) }) (c.id id)
          (record (records.closed h) { name = c.var h.name; due = due }))
          (taken_off_changed s id h) (sym (hides.times.rests false h.kind _ refl))
          ∙ put_changed (record (taken_off s id h) { closing = with_first s.closing id }) id (records.closed h) puts

      due_in_changed : (h : HandleRecord) → is_timer h.kind ≡ true → dues.due_in (c.times.time s.time) (changed_handle c h) ≡ dues.due_in s.time h
      due_in_changed h timer = by h.active where
        by : (b : Bool) → (if b then (c.times.due_in b h.kind h.due).at - c.times.time s.time else 0) ≡ (if b then h.due.at - s.time else 0)
        by true = ap (λ (due : Due). due.at - c.times.time s.time) (hides.times.ticks h.kind h.due timer) ∙ hides.times.left h.due
        by false = refl

      pub op_changed : (at : Site) (o : Op) → op_at p at ≡ Some o → (cancels_op o ≡ true → Cancels s) → (op_reads_clock o ≡ true → Clocks s) →
          do_op (changed c s) (changed_op c o) ≡ done_changed (Some o) (do_op s o)
      op_changed at (op.Init v k) e work time = make_changed _ v _ _ (new_changed v k)
      op_changed at (op.Queue v task) e work time = make_changed _ v _ _ (queued_changed v task)
      op_changed at (op.Cancel v) e work time = work refl _ v
      op_changed at (op.Start v timeout repeat) e work time = on_handle_changed _ v start_timer_refusal _ _ (λ h. refl)
          (λ id h is w. start_changed None timeout repeat id h (reads.puts id h is) (hides.times.starts at v timeout repeat e)
          (is_a_timer (is_timer h.kind) _ w))
      op_changed at (op.StartWatcher v) e work time = on_handle_changed _ v start_watcher_refusal _ _ (λ h. refl)
          (λ id h is w. start_watcher_changed None id h (reads.puts id h is) (starts_no_timer h.kind h.closing w))
      op_changed at (op.Stop v) e work time = on_handle_changed _ v stop_refusal _ _ (λ h. refl)
          (λ id h is w. ap ops.succeeds (stopped_changed id h (reads.puts id h is)))
      op_changed at (op.Again v) e work time = on_handle_changed _ v again_refusal _ _ (λ h. refl)
          (λ id h is w. again_changed None id h is (is_a_timer (is_timer h.kind) _ w))
      op_changed at (op.SetRepeat v repeat) e work time = on_handle_changed _ v timer_refusal _ _ (λ h. refl)
          (λ id h is w. ap ops.succeeds (put_changed s id (repeating repeat h) (reads.puts id h is)))
      op_changed at (op.DueIn v) e work time = on_handle_changed _ v timer_refusal _ _ (λ h. refl)
          (λ id h is w. ap (λ n. ops.says (changed c s) (answer.Number n)) (due_in_changed h (is_a_timer (is_timer h.kind) _ w)))
      op_changed at (op.Close v) e work time = on_handle_changed _ v close_refusal _ _ (λ h. refl)
          (λ id h is w. ap ops.succeeds (closed_changed id h (reads.puts id h is)))
      op_changed at (op.Ref v) e work time = on_handle_changed _ v no_refusal _ _ (λ h. refl)
          (λ id h is w. ap ops.succeeds (put_changed s id (referenced_as true h) (reads.puts id h is)))
      op_changed at (op.Unref v) e work time = on_handle_changed _ v no_refusal _ _ (λ h. refl)
          (λ id h is w. ap ops.succeeds (put_changed s id (referenced_as false h) (reads.puts id h is)))
      op_changed at (op.HasRef v) e work time = on_handle_changed _ v no_refusal _ _ (λ h. refl) (λ id h is w. refl)
      op_changed at (op.IsActive v) e work time = on_handle_changed _ v no_refusal _ _ (λ h. refl) (λ id h is w. refl)
      op_changed at (op.IsClosing v) e work time = on_handle_changed _ v no_refusal _ _ (λ h. refl) (λ id h is w. refl)
      op_changed at (op.Send v) e work time = ap ops.says_code (send_changed v)
      op_changed at op.StopLoop e work time = refl
      op_changed at op.UpdateTime e work time = ap ops.succeeds (refreshed_changed (time refl))
      op_changed at op.Now e work time = refl
      op_changed at op.IsAlive e work time = ap (λ b. ops.says (changed c s) (answer.Flag b)) alive
      op_changed at op.Timeout e work time = ap (λ t. ops.says (changed c s) (answer.Timeout t)) backend_changed
      op_changed at op.CloseLoop e work time =
          if_shift (done_changed (Some op.CloseLoop)) (ops.is_in_use s) (ops.is_in_use (changed c s)) _ _ _ _ hides.uses refl refl

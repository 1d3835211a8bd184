-- When timers are due, as the lines tell it and as the handles say it: each step keeps that they agree.
use Rattle.uv_order.proofs.Names.{arith, ◌≡◌, ℕ, ◌+◌, ◌==◌, List, ◌∷◌, Bool, true, false, drop, if◌then◌else◌, Option, Some, None, Ok, refl, ap, sym, ◌∙◌, Id, Var, Code, Answer, Kind, Seen, Site, Op, Program, op_at, Request, Content, HandleRecord, WatcherKind, inited, is_timer, referenced_as, repeating, Slots, Slot, handle_in, held, freed, taken, next_free, same_id, State, fresh, handle, queued, live_handle, live_request, with_handle, with_request, watched, stopped, started, restarted, do_op, Next, Moves, Refuses, Activity, bound, kind_as, [], handle_of, collected, front_moved, Line, starts_anew, starts_called, starts_answered, starts_op, starting, starts, seens, behind, due_told}
use Rattle.uv_records.specs.Handles as records
use Rattle.uv_model.specs.Ops as ops
use Rattle.uv_order.proofs.Lemmas.{same, other, turned, Turns, held_at, is_held, put, put_same, put_other, SameHandles, same_handles, DidOp, IsAsked, IsRefusal, op_did, live_held, live_bound, send_both, cancel_both, IsRef, request_turns, freed_turns, Kept, Rests, fills, Did, FrontOf, FirstOf, IsStill, Touches, still_touches, start_touches}
use Rattle.uv_order.proofs.KeptSteps.{first_is, front_fits}
use Rattle.uv_order.proofs.Known.{is_answered}
use Rattle.uv_order.proofs.OpsOnce.{KnownAt}
use Rattle.uv_order.proofs.Started.{StartedAt, front_watches, no_timers}

-- so many starts were drawn as the lines tell, and each active timer is due as they tell
pub record Dated (p : Program) (past : List Line) (arena : Slots Content) (next : ℕ) : Type 0 where
  pub drawn : next ≡ starts p (seens past)
  pub due : (id : Id) (h : HandleRecord) → held_at arena.slots id ≡ Some h → is_timer h.kind ≡ true → h.active ≡ true → h.due ≡ due_told p past id

abbrev pub DatedAt : Program → List Line → State → Type 0
DatedAt p past s = Dated p past s.arena s.next_start

-- more lines, none of which starts a timer
pub record Quiet (p : Program) (past now : List Line) : Type 0 where
  pub drawn : starts p (seens now) ≡ starts p (seens past)
  pub due : (i : Id) → due_told p now i ≡ due_told p past i

-- one line more, which starts a timer that is due then
pub record Starts (p : Program) (past now : List Line) (id : Id) (at : ℕ) : Type 0 where
  pub drawn : starts p (seens now) ≡ starts p (seens past) + 1
  pub due : (i : Id) → due_told p now i ≡ (if same_id id i then record { at = at; start = starts p (seens past) } else due_told p past i)

-- a line that starts none
pub quiet_line : (p : Program) (past : List Line) (l : Line) → starting p (seens past) l.seen ≡ None → Quiet p past (l ∷ past)
quiet_line p past l e = record { drawn = rw e refl; due = λ i. rw e refl }

-- ---- changes of the slots

-- it is due as before, where it is an active timer
pub dated_touched : (p : Program) (past now : List Line) (s u : State) (id : Id) (h x : HandleRecord) → Touches s id h x u →
    u.next_start ≡ s.next_start →
    (is_timer x.kind ≡ true → x.active ≡ true → (is_timer h.kind ≡ true) × (h.active ≡ true) × (x.due ≡ h.due)) → Quiet p past now →
    DatedAt p past s → DatedAt p now u
dated_touched p past now s u id h x t n alike q k = record {
  drawn = n ∙ k.drawn ∙ sym q.drawn;
  due = λ i y e timer on. due i y timer on (same_id i id) refl (sym (grind (arith, same, put_same, put_other, other)) ∙ e);
} where
  due : (i : Id) (y : HandleRecord) → is_timer y.kind ≡ true → y.active ≡ true → (b : Bool) → same_id i id ≡ b →
      (if same_id i id then Some x else held_at s.arena.slots i) ≡ Some y → y.due ≡ due_told p now i
  due i y timer on b d e = grind (arith, same, t.holds, k.due, q.due, alike)

-- it is started
pub dated_started : (p : Program) (past now : List Line) (s u : State) (id : Id) (h x : HandleRecord) (at : ℕ) → Touches s id h x u →
    u.next_start ≡ s.next_start + 1 → x.due ≡ record { at = at; start = s.next_start } → Starts p past now id at → DatedAt p past s → DatedAt p now u
dated_started p past now s u id h x at t n own q k = record {
  drawn = n ∙ ap (λ (m : ℕ). m + 1) k.drawn ∙ sym q.drawn;
  due = λ i y e timer on. due i y timer on (same_id i id) refl (sym (grind (arith, same, put_same, put_other, other)) ∙ e);
} where
  due : (i : Id) (y : HandleRecord) → is_timer y.kind ≡ true → y.active ≡ true → (b : Bool) → same_id i id ≡ b →
      (if same_id i id then Some x else held_at s.arena.slots i) ≡ Some y → y.due ≡ due_told p now i
  due i y timer on b d e = grind (arith, same, turned, k.due, q.due)

-- no handle changes
pub dated_same : (p : Program) (past now : List Line) (s u : State) → SameHandles u.arena.slots s.arena.slots → u.next_start ≡ s.next_start →
    Quiet p past now → DatedAt p past s → DatedAt p now u
dated_same p past now s u handles n q k = grind arith

-- what is held turns into something that is no active timer
pub dated_turned : (p : Program) (past now : List Line) (arena more : Slots Content) (next : ℕ) (id : Id) (was is : Option Content) →
    Turns arena.slots more.slots id was is →
    ((y : HandleRecord) → held_at more.slots id ≡ Some y → is_timer y.kind ≡ true → y.active ≡ true → ⊥) →
    Quiet p past now → Dated p past arena next → Dated p now more next
dated_turned p past now arena more next id was is t none q k = grind arith

-- ---- ops

-- the line of an op
op_says : (p : Program) (past : List Seen) (place : Site) (o : Op) (a : Answer) → op_at p place ≡ Some o →
    starting p past (Seen.Op place a) ≡ starts_answered p past (Some (record { op = o; answer = a }))
op_says p past place o a e = ap (starts_answered p past) (is_answered p place o a e)

-- all but these start no timer
abbrev is_calm : Op → Bool
is_calm (Op.Start v timeout repeat) = false
is_calm (Op.Again v) = false
is_calm o = true

calm_op : (p : Program) (past : List Seen) (o : Op) (a : Answer) → is_calm o ≡ true →
    starts_answered p past (Some (record { op = o; answer = a })) ≡ None
calm_op p past o a e = grind arith

asked_calm : (o : Op) → IsAsked o → is_calm o ≡ true
asked_calm o a = grind arith

refused_op : (p : Program) (past : List Seen) (o : Op) (c : Code) → IsRefusal c →
    starts_answered p past (Some (record { op = o; answer = Answer.Code c })) ≡ None
refused_op p past o c r = grind arith

-- those start the handle of their name
op_starts : (p : Program) (past : List Seen) (place : Site) (o : Op) (v : Var) (id : Id) → op_at p place ≡ Some o → handle_of o ≡ Some v →
    bound p past v ≡ Some id → starting p past (Seen.Op place (Answer.Code Code.Ok)) ≡ starts_op p past o (Some id)
op_starts p past place o v id at e b = op_says p past place o (Answer.Code Code.Ok) at ∙ grind arith

-- what agrees with the line of an op
abbrev pub DatedBy : Program → List Line → State → Op → ops.Done → Type 0
DatedBy p past s o d = (place : Site) (t : State) → op_at p place ≡ Some o →
    DatedAt p (record { before = s; seen = Seen.Op place d.answer; after = t } ∷ past) d.state

-- such an op starts no timer
by_quiet : (p : Program) (past : List Line) (s : State) (o : Op) (d : ops.Done) →
    starts_answered p (seens past) (Some (record { op = o; answer = d.answer })) ≡ None →
    ((now : List Line) → Quiet p past now → DatedAt p now d.state) → DatedBy p past s o d
by_quiet p past s o d none k place t at = k _ (quiet_line p past _ (op_says p (seens past) place o d.answer at ∙ none))

-- one that changes a handle
by_touched : (p : Program) (past : List Line) (s : State) (o : Op) (d : ops.Done) (id : Id) (h x : HandleRecord) → is_calm o ≡ true →
    Touches s id h x d.state → d.state.next_start ≡ s.next_start →
    (is_timer x.kind ≡ true → x.active ≡ true → (is_timer h.kind ≡ true) × (h.active ≡ true) × (x.due ≡ h.due)) → DatedAt p past s →
    DatedBy p past s o d
by_touched p past s o d id h x calm t n alike k = search (by_quiet, calm_op, dated_touched)

start_dated : (p : Program) (past : List Line) (s : State) (v : Var) (timeout repeat : ℕ) (t : Id × HandleRecord) → live_handle s v ≡ Ok t →
    KnownAt p (seens past) s → DatedAt p past s → DatedBy p past s (Op.Start v timeout repeat) (ops.start s timeout repeat t.0 t.1)
start_dated p past s v timeout repeat t e w k place u at =
    dated_started p past _ s _ t.0 t.1 _ (behind s.time timeout)
    (start_touches s (stopped s t.0 t.1) t.0 t.1 (records.stopped t.1) timeout repeat (assumption (live_held s v t e))) refl refl
    (grind arith) k

-- a stopped timer is started again where it repeats, by a line that says so
again_dated : (p : Program) (past : List Line) (l : Line) (s u : State) (id : Id) (h x : HandleRecord) → Touches s id h x u →
    u.next_start ≡ s.next_start → u.time ≡ l.before.time →
    starting p (seens past) l.seen ≡ (if h.repeat == 0 then None else Some (record { id = id; timeout = h.repeat })) →
    (is_timer x.kind ≡ true → x.active ≡ true → (is_timer h.kind ≡ true) × (h.active ≡ true) × (x.due ≡ h.due)) →
    DatedAt p past s → DatedAt p (l ∷ past) (restarted u id h)
again_dated p past l s u id h x t n time says alike k = by (h.repeat == 0) refl where
  by : (b : Bool) → (h.repeat == 0) ≡ b → DatedAt p (l ∷ past) (if b then u else started u id h h.repeat h.repeat)
  by true z = dated_touched p past (l ∷ past) s u id h x t n alike (quiet_line p past l (says ∙ rw z refl)) k
  by false z = dated_started p past (l ∷ past) s (started u id h h.repeat h.repeat) id h _ (behind l.before.time h.repeat)
      (start_touches s u id h x h.repeat h.repeat t) (ap (λ (m : ℕ). m + 1) n) (rw (time, n) refl)
      (grind arith) k

no_timer : (k q : Kind) → k ≡ q → is_timer q ≡ false → {P : Type 0} → is_timer k ≡ true → P
no_timer k q is none timer = absurd (cc (sym (ap is_timer is ∙ none), timer))

-- the record of a request changes
request_dated : (p : Program) (past now : List Line) (s : State) (id : Id) (r x : Request) → held s.arena.slots id ≡ Some (Content.Request r) →
    Quiet p past now → DatedAt p past s → Dated p now (with_request s id x).arena s.next_start
request_dated p past now s id r x e q k =
    dated_same p past now s (with_request s id x) (same_handles s.arena.slots _ id _ _ (request_turns s.arena.slots id r x e) refl refl) refl q k

-- a stopped timer is started again by an op
again_op_dated : (p : Program) (past : List Line) (s : State) (v : Var) (t : Id × HandleRecord) → live_handle s v ≡ Ok t →
    KnownAt p (seens past) s → StartedAt p (seens past) s → DatedAt p past s → DatedBy p past s (Op.Again v) (ops.again s t.0 t.1)
again_op_dated p past s v t e w b k place u at =
    again_dated p past _ s (stopped s t.0 t.1) t.0 t.1 (records.stopped t.1) (assumption (live_held s v t e)) refl refl
    (op_starts p (seens past) place (Op.Again v) v t.0 at refl (w.binding v t.0 (live_bound s v t e))
    ∙ ap (λ (x : Activity). starts_anew x t.0) (b.active t.0 t.1 (live_held s v t e))) (λ timer on. cc on) k

-- a handle is made, which is no active timer
made_dated : (p : Program) (past : List Line) (s : State) (v : Var) (q : Kind) (id : Id) → next_free s.arena ≡ Some id → Kept s →
    DatedAt p past s → DatedBy p past s (Op.Init v q) (record { state = ops.with_new s v q id; answer = Answer.Id id })
made_dated p past s v q id e kept k place u at = by q at where
  made : (x : Kind) → op_at p place ≡ Some (Op.Init v x) →
      Dated p (record { before = s; seen = Seen.Op place (Answer.Id id); after = u } ∷ past)
      (taken id (Content.Handle (inited v x)) s.arena) s.next_start
  made x f =
      let t = (fills s.arena s.arena.free id (Content.Handle (inited v x)) refl kept.free e).0 in
      dated_turned p past _ s.arena (taken id (Content.Handle (inited v x)) s.arena) s.next_start id None _ t (none t)
      (quiet_line p past _ (op_says p (seens past) place (Op.Init v x) (Answer.Id id) f ∙ calm_op p (seens past) (Op.Init v x) (Answer.Id id) refl)) k
    where
      none : Turns s.arena.slots (taken id (Content.Handle (inited v x)) s.arena).slots id None (Some (Content.Handle (inited v x))) →
          (y : HandleRecord) → held_at (taken id (Content.Handle (inited v x)) s.arena).slots id ≡ Some y → is_timer y.kind ≡ true →
          y.active ≡ true → ⊥
      none t y g timer on = grind (arith, t.here)

  by : (x : Kind) → op_at p place ≡ Some (Op.Init v x) →
      DatedAt p (record { before = s; seen = Seen.Op place (Answer.Id id); after = u } ∷ past) (ops.with_new s v x id)
  by Kind.Timer f = made Kind.Timer f
  by each f = made each f

did_op_dated : (p : Program) (past : List Line) (s : State) (o : Op) (d : ops.Done) → DidOp s o d → Kept s → KnownAt p (seens past) s →
    StartedAt p (seens past) s → DatedAt p past s → DatedBy p past s o d
did_op_dated p past s o d (DidOp.refused o' c r may) kept w b k = grind arith
did_op_dated p past s o d (DidOp.asked o' a is) kept w b k = search (by_quiet, calm_op, asked_calm, dated_same)
did_op_dated p past s o d (DidOp.made v q id e) kept w b k = made_dated p past s v q id e kept k
did_op_dated p past s o d (DidOp.queued v task id e) kept w b k =
    by_quiet p past s (Op.Queue v task) d (calm_op p (seens past) (Op.Queue v task) d.answer refl)
    (λ now q. dated_turned p past now s.arena d.state.arena s.next_start id None _
    (fills s.arena s.arena.free id (Content.Request (queued v task)) refl kept.free e).0
    (λ y f timer on. grind (arith, fills))
    q k)
did_op_dated p past s o d (DidOp.cancelled v t live on) kept w b k = search (by_quiet, calm_op, request_dated)
did_op_dated p past s o d (DidOp.started v timeout repeat t e is stays) kept w b k = start_dated p past s v timeout repeat t e w k
did_op_dated p past s o d (DidOp.again v t e is stays begun) kept w b k = again_op_dated p past s v t e w b k
did_op_dated p past s o d (DidOp.watching v WatcherKind.Idle t e is off stays) kept w b k =
    by_touched p past s o d t.0 t.1 (records.activated t.1) refl (assumption (live_held s v t e)) refl (no_timer t.1.kind Kind.Idle is refl) k
did_op_dated p past s o d (DidOp.watching v q t e is off stays) kept w b k =
    by_touched p past s o d t.0 t.1 (records.activated t.1) refl (assumption (live_held s v t e)) refl
    (no_timer t.1.kind (kind_as q) is (no_timers q)) k
did_op_dated p past s o d (DidOp.io_started v t e is off stays) kept w b k =
    by_touched p past s o d t.0 t.1 (records.activated t.1) refl (assumption (live_held s v t e)) refl (no_timer t.1.kind Kind.Io is refl) k
did_op_dated p past s o d (DidOp.stopped v t e sync) kept w b k =
    by_touched p past s o d t.0 t.1 (records.stopped t.1) refl (assumption (live_held s v t e)) refl (λ timer on. cc on) k
did_op_dated p past s o d (DidOp.closed v t e stays) kept w b k =
    by_touched p past s o d t.0 t.1 (records.closed t.1) refl (assumption (live_held s v t e)) refl (λ timer on. cc on) k
did_op_dated p past s o d (DidOp.repeated v n t e) kept w b k =
    by_touched p past s o d t.0 t.1 (repeating n t.1) refl (assumption (live_held s v t e)) refl (λ timer on. (timer, on, refl)) k
did_op_dated p past s o d (DidOp.referenced o' u flag t e (IsRef.ref v)) kept w b k =
    by_touched p past s o' d t.0 t.1 (referenced_as flag t.1) refl (assumption (live_held s u t e)) refl (λ timer on. (timer, on, refl)) k
did_op_dated p past s o d (DidOp.referenced o' u flag t e (IsRef.unref v)) kept w b k =
    by_touched p past s o' d t.0 t.1 (referenced_as flag t.1) refl (assumption (live_held s u t e)) refl (λ timer on. (timer, on, refl)) k
did_op_dated p past s o d (DidOp.sent_to v t e is stays) kept w b k =
    by_touched p past s o d t.0 t.1 (records.sent t.1) refl (assumption (live_held s v t e)) refl (λ timer on. (timer, on, refl)) k
did_op_dated p past s o d each kept w b k = grind arith

-- ---- steps

abbrev pub DatedFollows : Program → List Line → State → Next → Type 0
DatedFollows p past s (Moves t (Some l)) = DatedAt p (record { before = s; seen = l; after = t } ∷ past) t
DatedFollows p past s (Moves t None) = DatedAt p past t
DatedFollows p past s (Refuses why) = Unit {0}

still_dated : (p : Program) (past : List Line) (s t : State) (l : Option Seen) → SameHandles t.arena.slots s.arena.slots →
    t.next_start ≡ s.next_start → IsStill l → DatedAt p past s → DatedFollows p past s (Moves t l)
still_dated p past s t l a n q k = grind arith

-- the line of a timer's call
call_starts : (p : Program) (past : List Seen) (s : State) (v : Var) (t : Id × HandleRecord) → handle s t.0 ≡ Some t.1 → is_timer t.1.kind ≡ true →
    StartedAt p past s →
    starting p past (Seen.Call v t.0) ≡ (if t.1.repeat == 0 then None else Some (record { id = t.0; timeout = t.1.repeat }))
call_starts p past s v t e timer b = ap (λ (x : Activity). starts_called x t.0) (b.active t.0 t.1 e) ∙ rw timer refl

-- that of another handle
other_call : (p : Program) (past : List Seen) (s : State) (v : Var) (t : Id × HandleRecord) → handle s t.0 ≡ Some t.1 → is_timer t.1.kind ≡ false →
    StartedAt p past s → starting p past (Seen.Call v t.0) ≡ None
other_call p past s v t e none b = ap (λ (x : Activity). starts_called x t.0) (b.active t.0 t.1 e) ∙ rw none refl

-- the front of the ready list is called
fired_dated : (p : Program) (past : List Line) (l : Line) (s : State) (t : Id × HandleRecord) → l.before ≡ s → l.seen ≡ Seen.Call t.1.name t.0 →
    FrontOf s s.ready t → Kept s → StartedAt p (seens past) s → DatedAt p past s →
    DatedAt p (l ∷ past) (restarted (record s { ready = drop 1 s.ready }) t.0 t.1)
fired_dated p past l s t is says f kept b k =
    let rests : Rests t.1 = front_fits s Rests [] s.ready t kept.ready.each f in
    again_dated p past l s (record s { ready = drop 1 s.ready }) t.0 t.1 t.1 (still_touches s (drop 1 s.ready) t.0 t.1 f.holds) refl (rw is refl)
    (rw says (call_starts p (seens past) s t.1.name t f.holds (ap is_timer rests.kind) b)) (λ timer on. (timer, on, refl)) k

-- the first timer that is due is called straight from the order of timers
due_dated : (p : Program) (past : List Line) (l : Line) (s : State) (t : Id × HandleRecord) → l.before ≡ s → l.seen ≡ Seen.Call t.1.name t.0 →
    FirstOf s s.timers t → Kept s → StartedAt p (seens past) s → DatedAt p past s → DatedAt p (l ∷ past) (restarted (stopped s t.0 t.1) t.0 t.1)
due_dated p past l s t is says f kept b k =
    again_dated p past l s (stopped s t.0 t.1) t.0 t.1 (records.stopped t.1) (assumption f.holds) refl (rw is refl)
    (rw says (call_starts p (seens past) s t.1.name t f.holds (ap is_timer (first_is s t f kept).set.kind) b)) (λ timer on. cc on) k

-- a watcher is called
walked_dated : (p : Program) (past : List Line) (l : Line) (s u : State) (q : WatcherKind) (t : Id × HandleRecord) (x : HandleRecord) →
    l.seen ≡ Seen.Call t.1.name t.0 → FrontOf s (watched s q).yet t → Touches s t.0 t.1 x u → u.next_start ≡ s.next_start → x.kind ≡ t.1.kind →
    Kept s → StartedAt p (seens past) s → DatedAt p past s → DatedAt p (l ∷ past) u
walked_dated p past l s u q t x says f touches n kind kept b k =
    let none : is_timer t.1.kind ≡ false = ap is_timer (front_watches s q t f kept).kind ∙ no_timers q in
    dated_touched p past (l ∷ past) s u t.0 t.1 x touches n (no_timer x.kind t.1.kind kind none)
    (quiet_line p past l (rw says (other_call p (seens past) s t.1.name t f.holds none b))) k

-- a slot is freed or retired
freed_dated : (p : Program) (past : List Line) (l : Line) (s : State) (last : ℕ) (id : Id) (c : Content) → held s.arena.slots id ≡ Some c →
    starting p (seens past) l.seen ≡ None → DatedAt p past s → Dated p (l ∷ past) (freed last id s.arena) s.next_start
freed_dated p past l s last id c e none k =
    let t = freed_turns last s.arena id c e in
    grind arith

sent_dated : (p : Program) (past : List Line) (s : State) (v : Var) → DatedAt p past s →
    DatedFollows p past s (Moves (ops.send s (live_handle s v)).state (Some (Seen.Send v (ops.send s (live_handle s v)).code)))
sent_dated p past s v k = send_both s v (λ (c : ops.Coded). DatedFollows p past s (Moves c.state (Some (Seen.Send v c.code))))
    (λ c r. dated_same p past _ s s (λ i. refl) refl (quiet_line p past _ refl) k)
    (λ t e is. dated_touched p past _ s (with_handle s t.0 (records.sent t.1)) t.0 t.1 (records.sent t.1) (assumption (live_held s v t e)) refl
    (λ timer on. (timer, on, refl)) (quiet_line p past _ refl) k)

cancelled_dated : (p : Program) (past : List Line) (s : State) (v : Var) → DatedAt p past s →
    DatedFollows p past s (Moves (ops.cancel s (live_request s v)).state (Some (Seen.Cancel v (ops.cancel s (live_request s v)).answer)))
cancelled_dated p past s v k = cancel_both s v (λ (d : ops.Done). DatedFollows p past s (Moves d.state (Some (Seen.Cancel v d.answer))))
    (λ c r. dated_same p past _ s s (λ i. refl) refl (quiet_line p past _ refl) k)
    (λ t live on. request_dated p past _ s t.0 t.1 _ live.holds (quiet_line p past _ refl) k)

pub did_dated : (p : Program) (past : List Line) (s : State) (n : Next) → Did p s n → Kept s → KnownAt p (seens past) s → StartedAt p (seens past) s →
    DatedAt p past s → DatedFollows p past s n
did_dated p past s n (Did.still x time clock stop idled l q none) kept w b k = still_dated p past s _ l (λ i. refl) refl q k
did_dated p past s n (Did.op x at o e) kept w b k = did_op_dated p past s o (do_op s o) (op_did s o) kept w b k at _ e
did_dated p past s n (Did.begun run WatcherKind.Idle e) kept w b k = assumption
did_dated p past s n (Did.collected run part t f) kept w b k = dated_touched p past past s (collected s t.0 t.1) t.0 t.1 (records.stopped t.1)
    (assumption f.holds) refl (λ timer on. cc on) (grind arith) k
did_dated p past s n (Did.fired run t f) kept w b k = fired_dated p past _ s t refl refl f kept b k
did_dated p past s n (Did.called_due run t f) kept w b k = due_dated p past _ s t refl refl f kept b k
did_dated p past s n (Did.walked run WatcherKind.Idle t sync f) kept w b k =
    walked_dated p past _ s s WatcherKind.Idle t t.1 refl f (still_touches s s.ready t.0 t.1 f.holds) refl refl kept b k
did_dated p past s n (Did.walked run q t sync f) kept w b k =
    walked_dated p past _ s s q t t.1 refl f (still_touches s s.ready t.0 t.1 f.holds) refl refl kept b k
did_dated p past s n (Did.woken run t f on) kept w b k =
    walked_dated p past _ s (with_handle (front_moved s WatcherKind.Async t.0) t.0 (records.woken t.1)) WatcherKind.Async t (records.woken t.1) refl f
    (assumption f.holds) refl refl kept b k
did_dated p past s n (Did.closed run t f) kept w b k = search (freed_dated, is_held)
did_dated p past s n (Did.ended run t f) kept w b k = freed_dated p past _ s _ t.0 _ f.holds refl k
did_dated p past s n (Did.finished n' t f) kept w b k = request_dated p past _ s t.0 t.1 _ f.holds (quiet_line p past _ refl) k
did_dated p past s n (Did.sent v) kept w b k = sent_dated p past s v k
did_dated p past s n (Did.cancelled v) kept w b k = cancelled_dated p past s v k
did_dated p past s n each kept w b k = assumption

pub dated_fresh : (p : Program) → DatedAt p [] (fresh p)
dated_fresh p = record { drawn = refl; due = λ id h e. cc e }

-- Who was started, as the lines tell it and as the handles say it, and which ids were made: each step keeps that they agree.
use Rattle.uv_order.proofs.Names.{arith, ◌≡◌, ◌⊎◌, inl, inr, ℕ, ◌||◌, ◌&&◌, List, ◌∷◌, Bool, true, false, drop, if◌then◌else◌, Option, Some, None, Ok, refl, ap, sym, subst, ◌∙◌, or_right, same_Some, Id, Var, Code, Answer, Kind, Seen, Site, Op, Program, op_at, Task, Request, queued, Content, HandleRecord, WatcherKind, inited, is_timer, referenced_as, repeating, Slots, held, freed, taken, next_free, handle_in, same_id, without_id, State, fresh, handle, live_handle, live_request, with_handle, with_request, watched, stopped, restarted, do_op, Next, Moves, Refuses, has_id, Activity, Answered, activity, activity_answered, activity_done, activity_by, activity_called, is_some_id, bound, makes, made_as, kind_as, [], handle_of, collected, front_moved, false_from_ne_true}
use Rattle.uv_records.specs.Handles as records
use Rattle.uv_model.specs.Ops as ops
use Rattle.uv_order.proofs.Lemmas.{same, other, itself, turned, has_without, has_new_middle, without_itself, Turns, IsHeld, held_at, is_held, put, put_turns, put_same, SameHandles, same_handles, Lists, DidOp, IsAsked, IsRefusal, op_did, live_held, live_bound, send_both, cancel_both, IsRef, request_turns, freed_turns, IsGone, gone_put, gone_turned, gone_emptied, gone_now, Rests, Watches, Kept, fills, not_free, Did, FrontOf, FirstOf, IsStill, Touches, still_touches, start_touches, again_as, again_touches, put_other, turned_to, has_both}
use Rattle.uv_order.proofs.KeptSteps.{first_is, front_fits}
use Rattle.uv_order.proofs.Known.{is_answered}
use Rattle.uv_order.proofs.OpsOnce.{KnownAt, asked_harmless, harmless, refused_harmless, gone_taken, next_not_gone}

-- ---- what agrees

-- a handle as the lines tell it, by its record and by whether it stands among the timers that are to be called
abbrev pub shown : HandleRecord → Bool → Activity
shown h ready = record { timer = is_timer h.kind; repeat = h.repeat; started = ready || h.active }

-- an id is held, or gone
abbrev pub IsOld : Slots Content → Id → Type 0
IsOld arena id = IsHeld arena.slots id ⊎ IsGone arena.slots arena.free id

-- who is held was started as the lines tell, and every id that they make is held or gone
pub record Started (p : Program) (past : List Seen) (arena : Slots Content) (ready : List Id) : Type 0 where
  pub active : (id : Id) (h : HandleRecord) → held_at arena.slots id ≡ Some h → activity p past id ≡ shown h (has_id ready id)
  pub old : (id : Id) (v : Var) → made_as p past id ≡ Some v → IsOld arena id

abbrev pub StartedAt : Program → List Seen → State → Type 0
StartedAt p past s = Started p past s.arena s.ready

-- more lines, which make no id, and say of no other handle than this one whether it was started
pub record Adds (p : Program) (past now : List Seen) (id : Id) : Type 0 where
  pub made : (i : Id) (v : Var) → made_as p now i ≡ Some v → made_as p past i ≡ Some v
  pub others : (i : Id) → same_id i id ≡ false → activity p now i ≡ activity p past i

-- more lines, which tell nothing of either
pub record Silent (p : Program) (past now : List Seen) : Type 0 where
  pub made : (i : Id) (v : Var) → made_as p now i ≡ Some v → made_as p past i ≡ Some v
  pub same : (i : Id) → activity p now i ≡ activity p past i

-- ---- changes of the slots

-- what is gone stays gone
abbrev pub StaysGone : Slots Content → Slots Content → Type 0
StaysGone arena now = (i : Id) → IsGone arena.slots arena.free i → IsGone now.slots now.free i

-- the record of a handle changes
pub started_touched : (p : Program) (past more : List Seen) (s u : State) (id : Id) (h x : HandleRecord) → Touches s id h x u → Adds p past more id →
    ((i : Id) → same_id i id ≡ false → has_id u.ready i ≡ has_id s.ready i) →
    (activity p past id ≡ shown h (has_id s.ready id) → activity p more id ≡ shown x (has_id u.ready id)) → StartedAt p past s → StartedAt p more u
started_touched p past more s u id h x t adds lists own k =
    rw t.arena (record { active = λ i y e. active i y e (same_id i id) refl; old = λ i v e. old i (k.old i v (adds.made i v e)) }) where
      turns : Turns s.arena.slots (put s.arena.slots id x) id (Some (Content.Handle h)) (Some (Content.Handle x))
      turns = put_turns s.arena.slots id h x t.holds

      active : (i : Id) (y : HandleRecord) → held_at (put s.arena.slots id x) i ≡ Some y → (b : Bool) → same_id i id ≡ b →
          activity p more i ≡ shown y (has_id u.ready i)
      active i y e true d =
          let is = same i id d in
          let now : x ≡ y = same_Some _ _ (sym (put_same s.arena.slots id h x t.holds) ∙ ap (held_at (put s.arena.slots id x)) (sym is) ∙ e) in
          grind arith
      active i y e false d = adds.others i d ∙ k.active i y (sym (put_other s.arena.slots id i h x t.holds (other i id d)) ∙ e)
          ∙ ap (shown y) (sym (lists i d))

      old : (i : Id) → IsOld s.arena i → IsOld (record s.arena { slots = put s.arena.slots id x }) i
      old i (inl here) = inl (grind (arith, turned_to turns))
      old i (inr g) = inr (gone_put s.arena.slots s.arena.free id h x i t.holds g)

-- no handle changes
pub started_same : (p : Program) (past more : List Seen) (arena now : Slots Content) (ready : List Id) → SameHandles now.slots arena.slots →
    ((i : Id) → IsOld arena i → IsOld now i) → Silent p past more → Started p past arena ready → Started p more now ready
started_same p past more arena now ready handles old quiet k = record {
  active = λ i y e. quiet.same i ∙ k.active i y (sym (handles i) ∙ e);
  old = λ i v e. old i (k.old i v (quiet.made i v e));
}

-- what a slot holds turns into something else
old_turned : (arena now : Slots Content) (id i : Id) (was : Option Content) (c : Content) → Turns arena.slots now.slots id was (Some c) →
    StaysGone arena now → IsOld arena i → IsOld now i
old_turned arena now id i was c t gone (inl here) = inl (grind arith)
old_turned arena now id i was c t gone (inr g) = inr (gone i g)

-- the record of a handle changes, which is as active as before
pub still_started : (p : Program) (past more : List Seen) (s u : State) (id : Id) (h x : HandleRecord) → Touches s id h x u → u.ready ≡ s.ready →
    ((ready : Bool) → shown x ready ≡ shown h ready) → Silent p past more → StartedAt p past s → StartedAt p more u
still_started p past more s u id h x t r alike q k = started_touched p past more s u id h x t (grind arith) (λ i d. rw r refl)
    (λ f. q.same id ∙ f ∙ sym (alike (has_id s.ready id)) ∙ rw r refl) k

-- ---- the lines of ops

-- the line of an op
pub op_tells : (p : Program) (past : List Seen) (place : Site) (o : Op) (a : Answer) (i : Id) → op_at p place ≡ Some o →
    activity p (Seen.Op place a ∷ past) i ≡ activity_done p past o a i (activity p past i)
op_tells p past place o a i e = ap (λ (d : Option Answered). activity_answered p past d i (activity p past i)) (is_answered p place o a e)

refused_still : (p : Program) (past : List Seen) (o : Op) (c : Code) (i : Id) (x : Activity) → IsRefusal c →
    activity_done p past o (Answer.Code c) i x ≡ x
refused_still p past o c i x r = grind arith

asked_still : (p : Program) (past : List Seen) (o : Op) (a : Answer) (i : Id) (x : Activity) → IsAsked o → activity_done p past o a i x ≡ x
asked_still p past o a i x (IsAsked.due_in v) = refl
asked_still p past o a i x each = refl

-- ---- ops

-- what agrees with the line of an op
abbrev pub StartedBy : Program → List Seen → Op → ops.Done → Type 0
StartedBy p past o d = (place : Site) → op_at p place ≡ Some o → StartedAt p (Seen.Op place d.answer ∷ past) d.state

-- an op on the handle of a name
record IsOn (p : Program) (past : List Seen) (o : Op) (v : Var) : Type 0 where
  makes : (i : Id) → makes o (Answer.Code Code.Ok) i ≡ None
  does : (i : Id) (x : Activity) →
      activity_done p past o (Answer.Code Code.Ok) i x ≡ (if is_some_id i (bound p past v) && true then activity_by o x else x)

is_on : (p : Program) (past : List Seen) (o : Op) (v : Var) → handle_of o ≡ Some v → IsOn p past o v
is_on p past o v e = record { makes = λ i. grind arith; does = λ i x. grind arith }

-- such an op was done, with the handle's record after it
done_started : (p : Program) (past : List Seen) (s u : State) (o : Op) (v : Var) (t : Id × HandleRecord) (x : HandleRecord) → handle_of o ≡ Some v →
    live_handle s v ≡ Ok t → Touches s t.0 t.1 x u → ((i : Id) → same_id i t.0 ≡ false → has_id u.ready i ≡ has_id s.ready i) →
    activity_by o (shown t.1 (has_id s.ready t.0)) ≡ shown x (has_id u.ready t.0) → KnownAt p past s → StartedAt p past s →
    StartedBy p past o (ops.succeeds u)
done_started p past s u o v t x is e touches lists own w k place at =
    started_touched p past (Seen.Op place (Answer.Code Code.Ok) ∷ past) s u t.0 t.1 x touches
    (adds (is_on p past o v is) bound_to) lists
    (λ f. op_tells p past place o (Answer.Code Code.Ok) t.0 at ∙ (is_on p past o v is).does t.0 (activity p past t.0)
    ∙ chosen t.0 bound_to (itself t.0 t.0 refl) ∙ ap (activity_by o) f ∙ own) k
  where
    bound_to : bound p past v ≡ Some t.0
    bound_to = w.binding v t.0 (live_bound s v t e)

    adds : IsOn p past o v → bound p past v ≡ Some t.0 → Adds p past (Seen.Op place (Answer.Code Code.Ok) ∷ past) t.0
    adds on b = grind (arith, turned)

    chosen : (i : Id) → bound p past v ≡ Some t.0 → same_id t.0 i ≡ true →
        (if is_some_id i (bound p past v) && true then activity_by o (activity p past i) else activity p past i) ≡ activity_by o (activity p past i)
    chosen i b d = grind arith

-- who is ready, where a timer is started again or not
pub again_ready : (u : State) (id : Id) (h : HandleRecord) → (restarted u id h).ready ≡ u.ready
again_ready u id h = grind arith

-- an op that starts and stops nobody, and makes no id
still_op : (p : Program) (past : List Seen) (s : State) (o : Op) (d : ops.Done) → ((i : Id) → makes o d.answer i ≡ None) →
    ((i : Id) (x : Activity) → activity_done p past o d.answer i x ≡ x) →
    ((now : List Seen) → Silent p past now → StartedAt p now d.state) → StartedBy p past o d
still_op p past s o d none still k place at = k (Seen.Op place d.answer ∷ past) (grind arith)

-- it changes nothing
unchanged : (p : Program) (past now : List Seen) (s : State) → Silent p past now → StartedAt p past s → StartedAt p now s
unchanged p past now s q k = started_same p past now s.arena s.arena s.ready (λ i. refl) (λ i g. g) q k

-- the record of a request
request_started : (p : Program) (past now : List Seen) (s : State) (id : Id) (r x : Request) → held s.arena.slots id ≡ Some (Content.Request r) →
    Silent p past now → StartedAt p past s → StartedAt p now (with_request s id x)
request_started p past now s id r x e q k =
    let t = request_turns s.arena.slots id r x e in
    search (started_same, past, same_handles, old_turned, gone_turned)

-- ---- what is made

-- nobody has made the id that comes next
pub new_id : (p : Program) (past : List Seen) (s : State) (id : Id) → next_free s.arena ≡ Some id → Kept s → StartedAt p past s →
    made_as p past id ≡ None
new_id p past s id e kept k = by (made_as p past id) refl where
  by : (o : Option Var) → made_as p past id ≡ o → o ≡ None
  by None f = refl
  by (Some v) f = absurd (not_old (k.old id v f)) where
    not_old : IsOld s.arena id → ⊥
    not_old (inl here) = let c = Content.Handle (inited v Kind.Idle) in
        cc (here.holds, (fills s.arena s.arena.free id c refl kept.free e).0.before)
    not_old (inr g) = next_not_gone s.arena s.arena.free id (Content.Handle (inited v Kind.Timer)) refl kept.free e g

-- it is made of what the line says
new_old : (p : Program) (past : List Seen) (s : State) (place : Site) (o : Op) (v : Var) (id : Id) (c : Content) → op_at p place ≡ Some o →
    ((i : Id) → makes o (Answer.Id id) i ≡ (if same_id id i then Some v else None)) → next_free s.arena ≡ Some id → Kept s → StartedAt p past s →
    (i : Id) (u : Var) → made_as p (Seen.Op place (Answer.Id id) ∷ past) i ≡ Some u → IsOld (taken id c s.arena) i
new_old p past s place o v id c at m e kept k i u f = by (same_id id i) refl where
  t : Turns s.arena.slots (taken id c s.arena).slots id None (Some c)
  t = (fills s.arena s.arena.free id c refl kept.free e).0

  by : (b : Bool) → same_id id i ≡ b → IsOld (taken id c s.arena) i
  by true d = inl (record { content = c; holds = ap (held (taken id c s.arena).slots) (sym (same id i d)) ∙ t.here })
  by false d = old_turned s.arena (taken id c s.arena) id i None c t (gone_taken s.arena s.arena.free id c refl kept.free e)
      (k.old i u (sym (grind arith) ∙ f))

-- a handle is
handle_made : (p : Program) (past : List Seen) (s : State) (v : Var) (q : Kind) (id : Id) → next_free s.arena ≡ Some id → Kept s →
    StartedAt p past s → StartedBy p past (Op.Init v q) (record { state = ops.with_new s v q id; answer = Answer.Id id })
handle_made p past s v q id e kept k place at = by q at where
  made : (x : Kind) → op_at p place ≡ Some (Op.Init v x) →
      Started p (Seen.Op place (Answer.Id id) ∷ past) (taken id (Content.Handle (inited v x)) s.arena) s.ready
  made x f = record {
    active = λ i y g. active i y g (same_id id i) refl;
    old = new_old p past s place (Op.Init v x) v id (Content.Handle (inited v x)) f (λ i. refl) e kept k;
  } where
    t : Turns s.arena.slots (taken id (Content.Handle (inited v x)) s.arena).slots id None (Some (Content.Handle (inited v x)))
    t = (fills s.arena s.arena.free id (Content.Handle (inited v x)) refl kept.free e).0

    away : has_id s.ready id ≡ false
    away = false_from_ne_true (has_id s.ready id)
        (λ on. let g = kept.ready.each id on in cc (is_held s.arena.slots id g.handle g.holds, t.before))

    active : (i : Id) (y : HandleRecord) → held_at (taken id (Content.Handle (inited v x)) s.arena).slots i ≡ Some y → (b : Bool) →
        same_id id i ≡ b → activity p (Seen.Op place (Answer.Id id) ∷ past) i ≡ shown y (has_id s.ready i)
    active i y g true d =
        let told = op_tells p past place (Op.Init v x) (Answer.Id id) i f in
        let turns = t in
        let is = same id i d in grind (arith, away)
    active i y g false d = op_tells p past place (Op.Init v x) (Answer.Id id) i f ∙ rw d (k.active i y
        (sym (ap handle_in (t.others i (λ is. other id i d (sym is)))) ∙ g))

  by : (x : Kind) → op_at p place ≡ Some (Op.Init v x) → StartedAt p (Seen.Op place (Answer.Id id) ∷ past) (ops.with_new s v x id)
  by Kind.Timer f = made Kind.Timer f
  by each f = made each f

-- a request is
request_made : (p : Program) (past : List Seen) (s : State) (v : Var) (task : Task) (id : Id) → next_free s.arena ≡ Some id → Kept s →
    StartedAt p past s → StartedBy p past (Op.Queue v task) (record { state = ops.with_queued s v task id; answer = Answer.Id id })
request_made p past s v task id e kept k place at = record {
  active = λ i y g. op_tells p past place (Op.Queue v task) (Answer.Id id) i at ∙ k.active i y (sym (same_handles s.arena.slots _ id _ _
      (fills s.arena s.arena.free id (Content.Request (queued v task)) refl kept.free e).0 refl refl i) ∙ g);
  old = new_old p past s place (Op.Queue v task) v id (Content.Request (queued v task)) at (λ i. refl) e kept k;
}

-- ---- any op

did_op_started : (p : Program) (past : List Seen) (s : State) (o : Op) (d : ops.Done) → DidOp s o d → Kept s → KnownAt p past s →
    StartedAt p past s → StartedBy p past o d
did_op_started p past s o d (DidOp.refused o' c r may) kept w k = still_op p past s o' d (refused_harmless o' c r).0.made
    (λ i x. refused_still p past o' c i x r) (λ now q. unchanged p past now s q k)
did_op_started p past s o d (DidOp.asked o' a is) kept w k = still_op p past s o' d (harmless o' (asked_harmless o' is) a).0.made
    (λ i x. asked_still p past o' a i x is) (λ now q. unchanged p past now s q k)
did_op_started p past s o d DidOp.loop_stopped kept w k = search (still_op, past, unchanged)
did_op_started p past s o d DidOp.time_updated kept w k = search (still_op, unchanged)
did_op_started p past s o d (DidOp.made v q id e) kept w k = handle_made p past s v q id e kept k
did_op_started p past s o d (DidOp.queued v task id e) kept w k = request_made p past s v task id e kept k
did_op_started p past s o d (DidOp.cancelled v t live on) kept w k = search (still_op, request_started)
did_op_started p past s o d (DidOp.started v timeout repeat t e is stays) kept w k =
    done_started p past s d.state (Op.Start v timeout repeat) v t _ refl e
    (start_touches s (stopped s t.0 t.1) t.0 t.1 (records.stopped t.1) timeout repeat (assumption (live_held s v t e)))
    (λ i f. has_without s.ready t.0 i f) (rw (without_itself s.ready t.0) refl) w k
did_op_started p past s o d (DidOp.again v t e is stays begun) kept w k =
    done_started p past s d.state (Op.Again v) v t _ refl e
    (again_touches s (stopped s t.0 t.1) t.0 t.1 (records.stopped t.1) (assumption (live_held s v t e)))
    (λ i f. ap (λ (ids : List Id). has_id ids i) (again_ready (stopped s t.0 t.1) t.0 t.1) ∙ has_without s.ready t.0 i f)
    (grind (arith, without_itself s.ready t.0, again_ready (stopped s t.0 t.1) t.0 t.1)) w k
did_op_started p past s o d (DidOp.watching v WatcherKind.Idle t e is off stays) kept w k =
    done_started p past s d.state o v t (records.activated t.1) refl e (assumption (live_held s v t e)) (λ i f. refl) (grind arith) w k
did_op_started p past s o d (DidOp.watching v each t e is off stays) kept w k =
    done_started p past s d.state o v t (records.activated t.1) refl e (assumption (live_held s v t e)) (λ i f. refl) (grind arith) w k
did_op_started p past s o d (DidOp.io_started v t e is off stays) kept w k =
    done_started p past s d.state o v t (records.activated t.1) refl e (assumption (live_held s v t e)) (λ i f. refl) (grind arith) w k
did_op_started p past s o d (DidOp.watches v t e on) kept w k =
    done_started p past s s (Op.StartWatcher v) v t t.1 refl e (still_touches s s.ready t.0 t.1 (live_held s v t e)) (λ i f. refl) (grind arith) w k
did_op_started p past s o d (DidOp.stopped v t e sync) kept w k =
    done_started p past s d.state (Op.Stop v) v t (records.stopped t.1) refl e (assumption (live_held s v t e)) (λ i f. has_without s.ready t.0 i f)
    (rw (without_itself s.ready t.0) refl) w k
did_op_started p past s o d (DidOp.closed v t e stays) kept w k =
    done_started p past s d.state (Op.Close v) v t (records.closed t.1) refl e (assumption (live_held s v t e)) (λ i f. has_without s.ready t.0 i f)
    (rw (without_itself s.ready t.0) refl) w k
did_op_started p past s o d (DidOp.repeated v n t e) kept w k =
    done_started p past s d.state (Op.SetRepeat v n) v t (repeating n t.1) refl e (assumption (live_held s v t e)) (λ i f. refl) refl w k
did_op_started p past s o d (DidOp.referenced o' u flag t e (IsRef.ref v)) kept w k = still_op p past s (Op.Ref v) d (λ i. refl) (λ i x. refl)
    (λ now q. still_started p past now s d.state t.0 t.1 (referenced_as flag t.1) (assumption (live_held s u t e)) refl (λ b. refl) q k)
did_op_started p past s o d (DidOp.referenced o' u flag t e (IsRef.unref v)) kept w k = still_op p past s (Op.Unref v) d (λ i. refl) (λ i x. refl)
    (λ now q. still_started p past now s d.state t.0 t.1 (referenced_as flag t.1) (assumption (live_held s u t e)) refl (λ b. refl) q k)
did_op_started p past s o d (DidOp.sent_to v t e is stays) kept w k = still_op p past s (Op.Send v) d (λ i. refl) (λ i x. refl)
    (λ now q. still_started p past now s d.state t.0 t.1 (records.sent t.1) (assumption (live_held s v t e)) refl (λ b. refl) q k)

-- ---- steps

abbrev pub StartedFollows : Program → List Seen → Next → Type 0
StartedFollows p past (Moves t (Some l)) = StartedAt p (l ∷ past) t
StartedFollows p past (Moves t None) = StartedAt p past t
StartedFollows p past (Refuses why) = Unit {0}

-- a line of no op and no call
told_nothing : (p : Program) (past : List Seen) (l : Seen) → IsStill (Some l) → Silent p past (l ∷ past)
told_nothing p past l (IsStill.section word) = record { made = λ i v m. m; same = λ i. refl }
told_nothing p past l each = record { made = λ i v m. m; same = λ i. refl }

still_follows : (p : Program) (past : List Seen) (s t : State) (l : Option Seen) → t.arena ≡ s.arena → t.ready ≡ s.ready → IsStill l →
    StartedAt p past s → StartedFollows p past (Moves t l)
still_follows p past s t None a r IsStill.unseen k = grind arith
still_follows p past s t (Some l) a r q k = subst (λ (x : Slots Content). Started p (l ∷ past) x t.ready) (sym a)
    (subst (Started p (l ∷ past) s.arena) (sym r) (unchanged p past (l ∷ past) s (told_nothing p past l q) k))

call_tells : (p : Program) (past : List Seen) (v : Var) (id : Id) → activity p (Seen.Call v id ∷ past) id ≡ activity_called (activity p past id)
call_tells p past v id = rw (itself id id refl) refl

-- the front of the ready list is called: it is over, or it is started again
fired_started : (p : Program) (past : List Seen) (s : State) (t : Id × HandleRecord) → FrontOf s s.ready t → Kept s → StartedAt p past s →
    StartedAt p (Seen.Call t.1.name t.0 ∷ past) (restarted (record s { ready = drop 1 s.ready }) t.0 t.1)
fired_started p past s t f kept k =
    let l : Lists s.arena.slots Rests (t.0 ∷ drop 1 s.ready) = subst (Lists s.arena.slots Rests) f.are kept.ready in
    let rests : Rests t.1 = front_fits s Rests [] s.ready t kept.ready.each f in
    let u : State = record s { ready = drop 1 s.ready } in
    let still : (restarted u t.0 t.1).ready ≡ drop 1 s.ready = again_ready u t.0 t.1 in
    started_touched p past (Seen.Call t.1.name t.0 ∷ past) s (restarted u t.0 t.1) t.0 t.1 (again_as u t.1 t.1)
    (again_touches s u t.0 t.1 t.1 (still_touches s (drop 1 s.ready) t.0 t.1 f.holds)) (grind arith)
    (λ i d. ap (λ (ids : List Id). has_id ids i) still ∙ sym (ap (λ (ids : List Id). has_id ids i) f.are ∙ rw (turned t.0 i ∙ d) refl))
    (λ e. call_tells p past t.1.name t.0 ∙ rw still (grind (arith, itself, ap (λ (ids : List Id). has_id ids t.0) f.are))) k

-- a timer is collected
collected_started : (p : Program) (past : List Seen) (s : State) (t : Id × HandleRecord) → FirstOf s s.timers t → Kept s → StartedAt p past s →
    StartedAt p past (collected s t.0 t.1)
collected_started p past s t f kept k =
    started_touched p past past s (collected s t.0 t.1) t.0 t.1 (records.stopped t.1) (assumption f.holds)
    (record { made = λ i v m. m; others = λ i d. refl })
    (λ i d. has_both s.ready (t.0 ∷ []) i ∙ rw (turned t.0 i ∙ d) (or_false (has_id s.ready i)))
    (λ e. e ∙ rw ((first_is s t f kept).set.active, has_new_middle s.ready [] t.0) (or_end (has_id s.ready t.0))) k
  where
    or_false : (b : Bool) → (b || false) ≡ b
    or_false b = grind arith

    or_end : (b : Bool) → record { timer = is_timer t.1.kind; repeat = t.1.repeat; started = b || true } ≡ shown (records.stopped t.1) true
    or_end b = grind arith

-- one that is due is called straight from the order of timers: it is over, or it is started again
due_started : (p : Program) (past : List Seen) (s : State) (t : Id × HandleRecord) → FirstOf s s.timers t → Kept s → StartedAt p past s →
    StartedAt p (Seen.Call t.1.name t.0 ∷ past) (restarted (stopped s t.0 t.1) t.0 t.1)
due_started p past s t f kept k =
    let set = (first_is s t f kept).set in
    let timer : is_timer t.1.kind ≡ true = ap is_timer set.kind in
    let u : State = stopped s t.0 t.1 in
    let still : (restarted u t.0 t.1).ready ≡ without_id s.ready t.0 = again_ready u t.0 t.1 in
    started_touched p past (Seen.Call t.1.name t.0 ∷ past) s (restarted u t.0 t.1) t.0 t.1 (again_as u t.1 (records.stopped t.1))
    (again_touches s u t.0 t.1 (records.stopped t.1) (assumption f.holds)) (grind arith)
    (λ i d. ap (λ (ids : List Id). has_id ids i) still ∙ has_without s.ready t.0 i d)
    (λ e. call_tells p past t.1.name t.0 ∙ ap activity_called e ∙ rw (still, without_itself s.ready t.0) (grind arith)) k

-- one of a list of watchers is active, and no timer
pub front_watches : (s : State) (q : WatcherKind) (t : Id × HandleRecord) → FrontOf s (watched s q).yet t → Kept s → Watches (kind_as q) t.1
front_watches s q t f kept = front_fits s (Watches (kind_as q)) (watched s q).list (watched s q).yet t (kept.watchers q).each f

pub no_timers : (q : WatcherKind) → is_timer (kind_as q) ≡ false
no_timers q = grind arith

-- a watcher is called, with its record as it was, or no longer pending
walked_started : (p : Program) (past : List Seen) (s u : State) (q : WatcherKind) (t : Id × HandleRecord) (x : HandleRecord) →
    FrontOf s (watched s q).yet t → Touches s t.0 t.1 x u → u.ready ≡ s.ready → ((ready : Bool) → shown x ready ≡ shown t.1 ready) → Kept s →
    StartedAt p past s → StartedAt p (Seen.Call t.1.name t.0 ∷ past) u
walked_started p past s u q t x f touches r alike kept k =
    let timer : is_timer t.1.kind ≡ false = ap is_timer (front_watches s q t f kept).kind ∙ no_timers q in
    started_touched p past (Seen.Call t.1.name t.0 ∷ past) s u t.0 t.1 x touches (grind arith) (λ i d. rw r refl)
    (λ e. call_tells p past t.1.name t.0 ∙ ap activity_called e ∙ rw timer refl ∙ sym (alike (has_id s.ready t.0)) ∙ rw r refl) k

-- ---- a slot is freed or retired

pub gone_freed : (s : State) (last : ℕ) (id : Id) (c : Content) → held s.arena.slots id ≡ Some c → Kept s → (i : Id) →
    IsGone s.arena.slots s.arena.free i → IsGone (freed last id s.arena).slots (freed last id s.arena).free i
gone_freed s last id c e kept i g = grind (arith, gone_emptied)

-- and its id is gone
pub freed_gone : (s : State) (last : ℕ) (id : Id) (c : Content) → held s.arena.slots id ≡ Some c → Kept s →
    IsGone (freed last id s.arena).slots (freed last id s.arena).free id
freed_gone s last id c e kept = grind (arith, not_free, gone_now)

freed_started : (p : Program) (past more : List Seen) (s : State) (last : ℕ) (id : Id) (c : Content) → held s.arena.slots id ≡ Some c → Kept s →
    Silent p past more → StartedAt p past s → Started p more (freed last id s.arena) s.ready
freed_started p past more s last id c e kept q k = record {
  active = λ i y f. active i y f (same_id i id) refl;
  old = λ i v m. old i (k.old i v (q.made i v m)) (same_id i id) refl;
} where
  t : Turns s.arena.slots (freed last id s.arena).slots id (Some c) None
  t = freed_turns last s.arena id c e

  active : (i : Id) (y : HandleRecord) → held_at (freed last id s.arena).slots i ≡ Some y → (b : Bool) → same_id i id ≡ b →
      activity p more i ≡ shown y (has_id s.ready i)
  active i y f b d = let turns = t in grind (arith, same, other)

  old : (i : Id) → IsOld s.arena i → (b : Bool) → same_id i id ≡ b → IsOld (freed last id s.arena) i
  old i o true d = inr (subst (IsGone (freed last id s.arena).slots (freed last id s.arena).free) (sym (same i id d)) (freed_gone s last id c e kept))
  old i (inl here) false d = inl (record { content = here.content; holds = t.others i (other i id d) ∙ here.holds })
  old i (inr g) false d = inr (gone_freed s last id c e kept i g)

-- ---- each step

sent_started : (p : Program) (past : List Seen) (s : State) (v : Var) → StartedAt p past s →
    StartedAt p (Seen.Send v (ops.send s (live_handle s v)).code ∷ past) (ops.send s (live_handle s v)).state
sent_started p past s v k = send_both s v (λ (c : ops.Coded). StartedAt p (Seen.Send v c.code ∷ past) c.state)
    (λ c r. unchanged p past _ s (record { made = λ i u m. m; same = λ i. refl }) k)
    (λ t e is. still_started p past _ s (with_handle s t.0 (records.sent t.1)) t.0 t.1 (records.sent t.1) (assumption (live_held s v t e)) refl
    (λ b. refl) (record { made = λ i u m. m; same = λ i. refl }) k)

cancelled_started : (p : Program) (past : List Seen) (s : State) (v : Var) → StartedAt p past s →
    StartedAt p (Seen.Cancel v (ops.cancel s (live_request s v)).answer ∷ past) (ops.cancel s (live_request s v)).state
cancelled_started p past s v k = cancel_both s v (λ (d : ops.Done). StartedAt p (Seen.Cancel v d.answer ∷ past) d.state)
    (λ c r. unchanged p past _ s (record { made = λ i u m. m; same = λ i. refl }) k)
    (λ t live on. request_started p past _ s t.0 t.1 _ live.holds (record { made = λ i u m. m; same = λ i. refl }) k)

pub did_started : (p : Program) (past : List Seen) (s : State) (n : Next) → Did p s n → Kept s → KnownAt p past s → StartedAt p past s →
    StartedFollows p past n
did_started p past s n (Did.still x time clock stop idled l q none) kept w k = search (still_follows, past)
did_started p past s n (Did.op x at o e) kept w k = did_op_started p past s o (do_op s o) (op_did s o) kept w k at e
did_started p past s n (Did.begun run WatcherKind.Idle e) kept w k = unchanged p past _ s (record { made = λ i v m. m; same = λ i. refl }) k
did_started p past s n (Did.collected run part t f) kept w k = collected_started p past s t f kept k
did_started p past s n (Did.fired run t f) kept w k = fired_started p past s t f kept k
did_started p past s n (Did.called_due run t f) kept w k = due_started p past s t f kept k
did_started p past s n (Did.walked run WatcherKind.Idle t sync f) kept w k =
    walked_started p past s s WatcherKind.Idle t t.1 f (still_touches s s.ready t.0 t.1 f.holds) refl (λ b. refl) kept k
did_started p past s n (Did.walked run each t sync f) kept w k =
    walked_started p past s s each t t.1 f (still_touches s s.ready t.0 t.1 f.holds) refl (λ b. refl) kept k
did_started p past s n (Did.woken run t f on) kept w k =
    walked_started p past s (with_handle (front_moved s WatcherKind.Async t.0) t.0 (records.woken t.1)) WatcherKind.Async t (records.woken t.1) f
    (assumption f.holds) refl (λ b. refl) kept k
did_started p past s n (Did.closed run t f) kept w k = search (freed_started, is_held, same)
did_started p past s n (Did.ended run t f) kept w k = search (freed_started, same)
did_started p past s n (Did.finished n' t f) kept w k = search (request_started, same)
did_started p past s n (Did.sent v) kept w k = sent_started p past s v k
did_started p past s n (Did.cancelled v) kept w k = cancelled_started p past s v k
did_started p past s n each kept w k = assumption

pub started_fresh : (p : Program) → StartedAt p [] (fresh p)
started_fresh p = record { active = λ id h e. cc e; old = λ id v e. cc e }

-- ---- who is called

-- who is active
pub active_started : (p : Program) (past : List Seen) (s : State) (id : Id) (h : HandleRecord) → handle s id ≡ Some h → h.active ≡ true →
    StartedAt p past s → (activity p past id).started ≡ true
active_started p past s id h e on k = ap (λ (x : Activity). x.started) (k.active id h e) ∙ or_right (has_id s.ready id) h.active on

-- the front of the ready list, and that of a list of watchers
pub ready_started : (p : Program) (past : List Seen) (s : State) (t : Id × HandleRecord) → FrontOf s s.ready t → StartedAt p past s →
    (activity p past t.0).started ≡ true
ready_started p past s t f k =
    let first : has_id (t.0 ∷ drop 1 s.ready) t.0 ≡ true = rw (itself t.0 t.0 refl) refl in
    ap (λ (x : Activity). x.started) (k.active t.0 t.1 f.holds)
    ∙ ap (λ (b : Bool). b || t.1.active) (ap (λ (ids : List Id). has_id ids t.0) f.are ∙ first)

pub watcher_is_started : (p : Program) (past : List Seen) (s : State) (q : WatcherKind) (t : Id × HandleRecord) → FrontOf s (watched s q).yet t →
    Kept s → StartedAt p past s → (activity p past t.0).started ≡ true
watcher_is_started p past s q t f kept k = active_started p past s t.0 t.1 f.holds (front_watches s q t f kept).active k

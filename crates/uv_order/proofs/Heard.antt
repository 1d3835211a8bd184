-- What there is and what the lines tell of it, as the handles and requests say it: each step keeps that they agree.
use Rattle.uv_order.proofs.Names.{arith, ◌≡◌, ℕ, ◌<◌, ◌==◌, ◌||◌, List, ◌∷◌, Bool, true, false, drop, length, slice_set, if◌then◌else◌, Option, Some, None, Ok, option_map, elements, eqb-true, eq-eqb, refl, ap, sym, ◌∙◌, or_left, or_right, same_Some, Id, Var, Code, Answer, Kind, Seen, Site, Op, Program, op_at, Request, queued, digest_in, Content, HandleRecord, WatcherKind, Named, inited, is_timer, referenced_as, repeating, Slots, held, freed, taken, next_free, handle_in, same_id, without_id, Place, State, handle, live_handle, live_request, with_handle, with_request, stopped, restarted, do_op, Next, Moves, Refuses, has_id, Answered, answered, bound, bound_by, binds, kind_as, [], collected, false_from_ne_true, named, Facts, new_facts, holds_by, holds_answered, holds_line, ids_held, facts, facts_by, facts_done, facts_answered, facts_held, changes}
use Rattle.uv_records.specs.Handles as records
use Rattle.uv_model.specs.Ops as ops
use Rattle.uv_order.proofs.Lemmas.{has_both, has_but_one, without_itself, same_handles, same, other, itself, turned, Turns, turned_to, held_at, is_held, put_turns, DidOp, IsAsked, IsRefusal, op_did, live_held, live_bound, send_both, cancel_both, IsRef, request_turns, freed_turns, Kept, Rests, fills, Did, FrontOf, FirstOf, IsStill, timed, Touches, still_touches, start_touches, again_as, again_touches, set_there}
use Rattle.uv_order.proofs.KeptSteps.{first_is, front_fits}
use Rattle.uv_order.proofs.Known.{is_answered, id_in, SameIds, counted_ids}
use Rattle.uv_order.proofs.OpsOnce.{KnownAt, fewer}
use Rattle.uv_order.proofs.OpEffects.{set_long}
use Rattle.uv_order.proofs.Started.{no_timers, again_ready}

-- ---- what agrees

abbrev pub facts_of : Content → Facts
facts_of (Content.Handle h) = record { kind = Some h.kind; referenced = h.referenced; begun = h.begun }
facts_of (Content.Request r) = new_facts None

-- what is held is so as the lines tell; a timer that is active, or set aside to be called, was started; and names are bound as the lines tell
pub record Heard (p : Program) (past : List Seen) (arena : Slots Content) (names : List Named) (ready : List Id) : Type 0 where
  pub stands : (id : Id) → facts_held p past id ≡ option_map facts_of (held arena.slots id)
  pub begun : (id : Id) (h : HandleRecord) → held_at arena.slots id ≡ Some h → is_timer h.kind ≡ true → (has_id ready id || h.active) ≡ true →
      h.begun ≡ true
  pub long : length names ≡ length p.callbacks
  pub bound : (v : Var) → v.0 < length p.callbacks → bound p past v ≡ id_in names v

abbrev pub HeardAt : Program → List Seen → State → Type 0
HeardAt p past s = Heard p past s.arena s.names s.ready

-- more lines, which tell nothing of this
pub record Hushed (p : Program) (past now : List Seen) : Type 0 where
  pub held : (i : Id) → facts_held p now i ≡ facts_held p past i
  pub bound : (v : Var) → bound p now v ≡ bound p past v

-- ---- changes of the slots

touched_held : (s u : State) (id : Id) (h x : HandleRecord) → Touches s id h x u → (i : Id) →
    held u.arena.slots i ≡ (if same_id i id then Some (Content.Handle x) else held s.arena.slots i)
touched_held s u id h x t i = rw t.arena (turned_to (put_turns s.arena.slots id h x t.holds) i)

touched_here : (s u : State) (id : Id) (h x : HandleRecord) → Touches s id h x u → (i : Id) → same_id i id ≡ true → held_at u.arena.slots i ≡ Some x
touched_here s u id h x t i d = let f = touched_held s u id h x t i in grind arith

touched_away : (s u : State) (id : Id) (h x : HandleRecord) → Touches s id h x u → (i : Id) → same_id i id ≡ false →
    held_at u.arena.slots i ≡ held_at s.arena.slots i
touched_away s u id h x t i d = let f = touched_held s u id h x t i in grind arith

-- the record of a handle changes, and so does what the lines tell of it
pub heard_touched : (p : Program) (past now : List Seen) (s u : State) (id : Id) (h x : HandleRecord) (change : Facts → Facts) → Touches s id h x u →
    ((i : Id) → facts_held p now i ≡ (if same_id i id then option_map change (facts_held p past i) else facts_held p past i)) →
    ((v : Var) → bound p now v ≡ bound p past v) → change (facts_of (Content.Handle h)) ≡ facts_of (Content.Handle x) →
    ((i : Id) → same_id i id ≡ false → has_id u.ready i ≡ true → has_id s.ready i ≡ true) →
    (is_timer x.kind ≡ true → (has_id u.ready id || x.active) ≡ true → x.begun ≡ true) → HeardAt p past s → HeardAt p now u
heard_touched p past now s u id h x change t tells names own lists begun k = record {
  stands = λ i. stands i (same_id i id) refl;
  begun = λ i y e timer on. begins i y e timer on (same_id i id) refl;
  long = ap length t.names ∙ k.long;
  bound = λ v l. names v ∙ k.bound v l ∙ ap (λ (ns : List Named). id_in ns v) (sym t.names);
} where
  had : held s.arena.slots id ≡ Some (Content.Handle h)
  had = is_held s.arena.slots id h t.holds

  stands : (i : Id) (b : Bool) → same_id i id ≡ b → facts_held p now i ≡ option_map facts_of (held u.arena.slots i)
  stands i true d = let f = touched_held s u id h x t i in let is = same i id d in grind (arith, had, tells, k.stands)
  stands i false d = let f = touched_held s u id h x t i in grind (arith, tells, k.stands)

  begins : (i : Id) (y : HandleRecord) → held_at u.arena.slots i ≡ Some y → is_timer y.kind ≡ true → (has_id u.ready i || y.active) ≡ true →
      (b : Bool) → same_id i id ≡ b → y.begun ≡ true
  begins i y e timer on true d =
      let is = same i id d in
      let now : x ≡ y = same_Some x y (sym (touched_here s u id h x t i d) ∙ e) in
      grind (arith, begun)
  begins i y e timer on false d = k.begun i y (sym (touched_away s u id h x t i d) ∙ e) timer
      (grind arith)

-- nothing that is told changes
pub heard_same : (p : Program) (past now : List Seen) (arena more : Slots Content) (names : List Named) (ready : List Id) →
    ((i : Id) → option_map facts_of (held more.slots i) ≡ option_map facts_of (held arena.slots i)) →
    ((i : Id) → held_at more.slots i ≡ held_at arena.slots i) → Hushed p past now → Heard p past arena names ready → Heard p now more names ready
heard_same p past now arena more names ready facts handles q k = grind arith

pub heard_hushed : (p : Program) (past now : List Seen) (arena : Slots Content) (names : List Named) (ready : List Id) → Hushed p past now →
    Heard p past arena names ready → Heard p now arena names ready
heard_hushed p past now arena names ready q k = heard_same p past now arena arena names ready (λ i. refl) (λ i. refl) q k

-- names get other counts
pub heard_names : (p : Program) (past : List Seen) (arena : Slots Content) (now was : List Named) (ready : List Id) → SameIds now was →
    length now ≡ length was → Heard p past arena was ready → Heard p past arena now ready
heard_names p past arena now was ready same long k = grind arith

-- ---- ops

abbrev pub if_held : Bool → Facts → Option Facts
if_held b x = if b then Some x else None

-- the line of an op
op_hears : (p : Program) (past : List Seen) (place : Site) (o : Op) (a : Answer) (i : Id) → op_at p place ≡ Some o →
    facts_held p (Seen.Op place a ∷ past) i ≡ if_held (has_id (holds_by o a (ids_held p past)) i) (facts_done p past o a i (facts p past i))
op_hears p past place o a i e = cc

op_binds : (p : Program) (past : List Seen) (place : Site) (o : Op) (a : Answer) (v : Var) → op_at p place ≡ Some o →
    bound p (Seen.Op place a ∷ past) v ≡ binds o a v (bound p past v)
op_binds p past place o a v e = ap (λ (d : Option Answered). bound_by d v (bound p past v)) (is_answered p place o a e)

-- all but these tell nothing of it
abbrev is_hushed : Op → Bool
is_hushed (Op.Init v k) = false
is_hushed (Op.Queue v task) = false
is_hushed (Op.Start v timeout repeat) = false
is_hushed (Op.Ref v) = false
is_hushed (Op.Unref v) = false
is_hushed o = true

hushed_op : (p : Program) (past : List Seen) (place : Site) (o : Op) (a : Answer) → op_at p place ≡ Some o → is_hushed o ≡ true →
    Hushed p past (Seen.Op place a ∷ past)
hushed_op p past place o a e q = grind arith

refused_op : (p : Program) (past : List Seen) (place : Site) (o : Op) (c : Code) → op_at p place ≡ Some o → IsRefusal c →
    Hushed p past (Seen.Op place (Answer.Code c) ∷ past)
refused_op p past place o c e r = record {
  held = λ i. op_hears p past place o (Answer.Code c) i e ∙ grind arith;
  bound = λ v. op_binds p past place o (Answer.Code c) v e ∙ grind arith;
}

asked_hushed : (o : Op) → IsAsked o → is_hushed o ≡ true
asked_hushed o a = grind arith

-- one that changes what is told of the handle of its name
telling_op : (p : Program) (past : List Seen) (place : Site) (o : Op) (v : Var) (id i : Id) → op_at p place ≡ Some o → changes o ≡ Some v →
    bound p past v ≡ Some id → facts_held p (Seen.Op place (Answer.Code Code.Ok) ∷ past) i
    ≡ (if same_id i id then option_map (facts_by o) (facts_held p past i) else facts_held p past i)
telling_op p past place o v id i e c b = op_hears p past place o (Answer.Code Code.Ok) i e ∙ grind (arith, turned)

telling_binds : (p : Program) (past : List Seen) (place : Site) (o : Op) (v w : Var) → op_at p place ≡ Some o → changes o ≡ Some v →
    bound p (Seen.Op place (Answer.Code Code.Ok) ∷ past) w ≡ bound p past w
telling_binds p past place o v w e c = op_binds p past place o (Answer.Code Code.Ok) w e ∙ grind arith

-- what agrees with the line of an op
abbrev pub HeardBy : Program → List Seen → Op → ops.Done → Type 0
HeardBy p past o d = (place : Site) → op_at p place ≡ Some o → HeardAt p (Seen.Op place d.answer ∷ past) d.state

-- such an op changes a handle
by_touched : (p : Program) (past : List Seen) (s u : State) (o : Op) (id : Id) (h x : HandleRecord) → is_hushed o ≡ true → Touches s id h x u →
    facts_of (Content.Handle h) ≡ facts_of (Content.Handle x) →
    ((i : Id) → has_id u.ready i ≡ true → has_id s.ready i ≡ true) →
    (is_timer x.kind ≡ true → (has_id u.ready id || x.active) ≡ true → x.begun ≡ true) → HeardAt p past s → HeardBy p past o (ops.succeeds u)
by_touched p past s u o id h x calm t own lists begun k place at =
    let q = hushed_op p past place o (Answer.Code Code.Ok) at calm in
    heard_touched p past _ s u id h x (λ y. y) t (λ i. q.held i ∙ grind arith) q.bound own (λ i d. lists i) begun k

-- and such an op what is told of it
by_telling : (p : Program) (past : List Seen) (s u : State) (o : Op) (v : Var) (t : Id × HandleRecord) (x : HandleRecord) → changes o ≡ Some v →
    live_handle s v ≡ Ok t → Touches s t.0 t.1 x u → facts_by o (facts_of (Content.Handle t.1)) ≡ facts_of (Content.Handle x) →
    ((i : Id) → has_id u.ready i ≡ true → has_id s.ready i ≡ true) →
    (is_timer x.kind ≡ true → (has_id u.ready t.0 || x.active) ≡ true → x.begun ≡ true) → KnownAt p past s → HeardAt p past s →
    HeardBy p past o (ops.succeeds u)
by_telling p past s u o v t x c e touches own lists begun w k place at =
    heard_touched p past _ s u t.0 t.1 x (facts_by o) touches
    (λ i. telling_op p past place o v t.0 i at c (w.binding v t.0 (live_bound s v t e))) (λ u. telling_binds p past place o v u at c) own
    (λ i d. lists i) begun k

-- a slot is taken for something new
made_heard : (p : Program) (past : List Seen) (s : State) (place : Site) (o : Op) (v : Var) (id : Id) (c : Content) → op_at p place ≡ Some o →
    ((i : Id) → if_held (has_id (holds_by o (Answer.Id id) (ids_held p past)) i) (facts_done p past o (Answer.Id id) i (facts p past i))
    ≡ (if same_id id i then Some (facts_of c) else facts_held p past i)) →
    ((u : Var) (before : Option Id) → binds o (Answer.Id id) u before ≡ (if v.0 == u.0 then Some id else before)) →
    ((h : HandleRecord) → handle_in (Some c) ≡ Some h → is_timer h.kind ≡ true → h.active ≡ false) → next_free s.arena ≡ Some id → Kept s →
    HeardAt p past s → Heard p (Seen.Op place (Answer.Id id) ∷ past) (taken id c s.arena)
    (slice_set s.names v.0 (record (named s v) { id = Some id })) s.ready
made_heard p past s place o v id c at says bind still e kept k = record {
  stands = λ i. op_hears p past place o (Answer.Id id) i at ∙ says i ∙ stands i (same_id id i) refl;
  begun = λ i y f timer on. begins i y f timer on (same_id i id) refl;
  long = set_long s.names v.0 _ ∙ k.long;
  bound = λ u l. op_binds p past place o (Answer.Id id) u at ∙ bind u _ ∙ named_now u l (v.0 == u.0) refl;
} where
  t : Turns s.arena.slots (taken id c s.arena).slots id None (Some c)
  t = (fills s.arena s.arena.free id c refl kept.free e).0

  stands : (i : Id) (b : Bool) → same_id id i ≡ b →
      (if b then Some (facts_of c) else facts_held p past i) ≡ option_map facts_of (held (taken id c s.arena).slots i)
  stands i true d = let is = same id i d in let turns = t.here in grind arith
  stands i false d = let turns = turned_to t i in let is = turned id i in grind (arith, k.stands)

  away : has_id s.ready id ≡ false
  away = false_from_ne_true (has_id s.ready id)
      (λ on. let g = kept.ready.each id on in cc (is_held s.arena.slots id g.handle g.holds, t.before))

  begins : (i : Id) (y : HandleRecord) → held_at (taken id c s.arena).slots i ≡ Some y → is_timer y.kind ≡ true →
      (has_id s.ready i || y.active) ≡ true → (b : Bool) → same_id i id ≡ b → y.begun ≡ true
  begins i y f timer on true d =
      let is = same i id d in
      let off = still y (sym (ap handle_in (ap (held (taken id c s.arena).slots) is ∙ t.here)) ∙ f) timer in
      let none = away in absurd (grind arith)
  begins i y f timer on false d = k.begun i y (sym (ap handle_in (t.others i (other i id d))) ∙ f) timer on

  named_now : (u : Var) → u.0 < length p.callbacks → (b : Bool) → (v.0 == u.0) ≡ b →
      (if b then Some id else bound p past u) ≡ id_in (slice_set s.names v.0 (record (named s v) { id = Some id })) u
  named_now u l b d = grind (arith, eqb-true, elements, set_there, eq-eqb)

handle_heard : (p : Program) (past : List Seen) (s : State) (v : Var) (q : Kind) (id : Id) → next_free s.arena ≡ Some id → Kept s →
    HeardAt p past s → HeardBy p past (Op.Init v q) (record { state = ops.with_new s v q id; answer = Answer.Id id })
handle_heard p past s v q id e kept k place at = by q at where
  made : (x : Kind) → op_at p place ≡ Some (Op.Init v x) → Heard p (Seen.Op place (Answer.Id id) ∷ past)
      (taken id (Content.Handle (inited v x)) s.arena) (slice_set s.names v.0 (record (named s v) { id = Some id })) s.ready
  made x f = made_heard p past s place (Op.Init v x) v id (Content.Handle (inited v x)) f (λ i. grind arith) (λ u b. refl) (grind arith) e kept k

  by : (x : Kind) → op_at p place ≡ Some (Op.Init v x) → HeardAt p (Seen.Op place (Answer.Id id) ∷ past) (ops.with_new s v x id)
  by Kind.Timer f = made Kind.Timer f
  by each f = made each f

request_heard : (p : Program) (past now : List Seen) (s : State) (id : Id) (r x : Request) → held s.arena.slots id ≡ Some (Content.Request r) →
    Hushed p past now → HeardAt p past s → Heard p now (with_request s id x).arena s.names s.ready
request_heard p past now s id r x e q k =
    let t = request_turns s.arena.slots id r x e in
    grind arith

no_timer : (k q : Kind) → k ≡ q → is_timer q ≡ false → {P : Type 0} → is_timer k ≡ true → P
no_timer k q is none timer = absurd (cc (sym (ap is_timer is ∙ none), timer))

-- who is taken off the ready list isn't ready
none_ready : (ids : List Id) (id : Id) → {P : Type 0} → (has_id (without_id ids id) id || false) ≡ true → P
none_ready ids id on = let e = without_itself ids id in absurd (grind arith)

-- a stopped timer is started again by an op, where it repeats
again_heard : (p : Program) (past : List Seen) (s : State) (v : Var) (t : Id × HandleRecord) → live_handle s v ≡ Ok t → t.1.begun ≡ true →
    HeardAt p past s → HeardBy p past (Op.Again v) (ops.again s t.0 t.1)
again_heard p past s v t e begun k =
    let u : State = stopped s t.0 t.1 in
    by_touched p past s (restarted u t.0 t.1) (Op.Again v) t.0 t.1 (again_as u t.1 (records.stopped t.1)) refl
    (again_touches s u t.0 t.1 (records.stopped t.1) (assumption (live_held s v t e))) (grind arith)
    (λ i h. fewer s.ready t.0 i (sym (ap (λ (ids : List Id). has_id ids i) (again_ready u t.0 t.1)) ∙ h)) (λ timer on. grind arith) k

did_op_heard : (p : Program) (past : List Seen) (s : State) (o : Op) (d : ops.Done) → DidOp s o d → Kept s → KnownAt p past s → HeardAt p past s →
    HeardBy p past o d
did_op_heard p past s o d (DidOp.refused o' c r may) kept w k = search (heard_hushed, refused_op)
did_op_heard p past s o d (DidOp.asked o' a is) kept w k = search (heard_hushed, hushed_op, asked_hushed)
did_op_heard p past s o d (DidOp.made v q id e) kept w k = handle_heard p past s v q id e kept k
did_op_heard p past s o d (DidOp.queued v task id e) kept w k = λ place at.
    made_heard p past s place (Op.Queue v task) v id (Content.Request (queued v task)) at (λ i. grind arith) (λ u b. refl) (grind arith) e kept k
did_op_heard p past s o d (DidOp.cancelled v t live on) kept w k = search (request_heard, hushed_op)
did_op_heard p past s o d (DidOp.started v timeout repeat t e is stays) kept w k =
    by_telling p past s d.state o v t _ refl e
    (start_touches s (stopped s t.0 t.1) t.0 t.1 (records.stopped t.1) timeout repeat (assumption (live_held s v t e))) refl
    (λ i. fewer s.ready t.0 i) (λ timer on. refl) w k
did_op_heard p past s o d (DidOp.again v t e is stays begun) kept w k = again_heard p past s v t e begun k
did_op_heard p past s o d (DidOp.watching v WatcherKind.Idle t e is off stays) kept w k =
    by_touched p past s d.state o t.0 t.1 (records.activated t.1) refl (assumption (live_held s v t e)) refl (λ i h. h)
    (no_timer t.1.kind Kind.Idle is refl) k
did_op_heard p past s o d (DidOp.watching v q t e is off stays) kept w k =
    by_touched p past s d.state o t.0 t.1 (records.activated t.1) refl (assumption (live_held s v t e)) refl (λ i h. h)
    (no_timer t.1.kind (kind_as q) is (no_timers q)) k
did_op_heard p past s o d (DidOp.io_started v t e is off stays) kept w k =
    by_touched p past s d.state o t.0 t.1 (records.activated t.1) refl (assumption (live_held s v t e)) refl (λ i h. h)
    (no_timer t.1.kind Kind.Io is refl) k
did_op_heard p past s o d (DidOp.stopped v t e sync) kept w k =
    by_touched p past s d.state o t.0 t.1 (records.stopped t.1) refl (assumption (live_held s v t e)) refl (λ i. fewer s.ready t.0 i)
    (λ timer on. none_ready s.ready t.0 on) k
did_op_heard p past s o d (DidOp.closed v t e stays) kept w k =
    by_touched p past s d.state o t.0 t.1 (records.closed t.1) refl (assumption (live_held s v t e)) refl (λ i. fewer s.ready t.0 i)
    (λ timer on. none_ready s.ready t.0 on) k
did_op_heard p past s o d (DidOp.repeated v n t e) kept w k =
    by_touched p past s d.state o t.0 t.1 (repeating n t.1) refl (assumption (live_held s v t e)) refl (λ i h. h)
    (k.begun t.0 t.1 (live_held s v t e)) k
did_op_heard p past s o d (DidOp.referenced o' u flag t e (IsRef.ref v)) kept w k =
    by_telling p past s d.state (Op.Ref v) v t (referenced_as true t.1) refl e (assumption (live_held s v t e)) refl (λ i h. h)
    (k.begun t.0 t.1 (live_held s v t e)) w k
did_op_heard p past s o d (DidOp.referenced o' u flag t e (IsRef.unref v)) kept w k =
    by_telling p past s d.state (Op.Unref v) v t (referenced_as false t.1) refl e (assumption (live_held s v t e)) refl (λ i h. h)
    (k.begun t.0 t.1 (live_held s v t e)) w k
did_op_heard p past s o d (DidOp.sent_to v t e is stays) kept w k =
    by_touched p past s d.state o t.0 t.1 (records.sent t.1) refl (assumption (live_held s v t e)) refl (λ i h. h)
    (k.begun t.0 t.1 (live_held s v t e)) k
did_op_heard p past s o d each kept w k = grind arith

-- ---- steps

abbrev pub HeardFollows : Program → List Seen → Next → Type 0
HeardFollows p past (Moves t (Some l)) = HeardAt p (l ∷ past) t
HeardFollows p past (Moves t None) = HeardAt p past t
HeardFollows p past (Refuses why) = Unit {0}

-- a line of no op and no close or after callback
abbrev pub IsPlain : Program → Seen → Type 0
IsPlain p l = (past : List Seen) → Hushed p past (l ∷ past)

still_plain : (p : Program) (l : Seen) → IsStill (Some l) → IsPlain p l
still_plain p l (IsStill.section word) past = record { held = λ i. refl; bound = λ v. refl }
still_plain p l each past = record { held = λ i. refl; bound = λ v. refl }

still_heard : (p : Program) (past : List Seen) (s : State) (x : Place) (time clock : ℕ) (stop idled : Bool) (l : Option Seen) → IsStill l →
    HeardAt p past s → HeardFollows p past (Moves (timed s x time clock stop idled) l)
still_heard p past s x time clock stop idled None q k = k
still_heard p past s x time clock stop idled (Some l) q k = heard_hushed p past (l ∷ past) s.arena s.names s.ready (still_plain p l q past) k

-- the state after a call's change, whose name gets other counts
called : (p : Program) (past : List Seen) (u : State) (v : Var) (x : Named) → x.id ≡ (named u v).id → HeardAt p past u →
    Heard p past u.arena (slice_set u.names v.0 x) u.ready
called p past u v x e k = heard_names p past u.arena (slice_set u.names v.0 x) u.names u.ready (counted_ids u.names v x e) (set_long u.names v.0 x) k

-- the record of a handle that is called changes, and nothing that is told of it
call_heard : (p : Program) (past : List Seen) (s u : State) (v : Var) (i : Id) (t : Id × HandleRecord) (x : HandleRecord) →
    Touches s t.0 t.1 x u → facts_of (Content.Handle t.1) ≡ facts_of (Content.Handle x) →
    ((i : Id) → has_id u.ready i ≡ true → has_id s.ready i ≡ true) →
    (is_timer x.kind ≡ true → (has_id u.ready t.0 || x.active) ≡ true → x.begun ≡ true) → HeardAt p past s → HeardAt p (Seen.Call v i ∷ past) u
call_heard p past s u v i t x touches own lists begun k =
    heard_touched p past _ s u t.0 t.1 x (λ y. y) touches (λ i. grind arith) (λ v. refl) own (λ i d. lists i) begun k

timer_begun : (p : Program) (past : List Seen) (s : State) (id : Id) (h : HandleRecord) → handle s id ≡ Some h → is_timer h.kind ≡ true →
    (has_id s.ready id || h.active) ≡ true → HeardAt p past s → h.begun ≡ true
timer_begun p past s id h e timer on k = k.begun id h e timer on

fired_heard : (p : Program) (past : List Seen) (s : State) (t : Id × HandleRecord) → FrontOf s s.ready t → Kept s → HeardAt p past s →
    HeardAt p (Seen.Call t.1.name t.0 ∷ past) (restarted (record s { ready = drop 1 s.ready }) t.0 t.1)
fired_heard p past s t f kept k =
    let rests : Rests t.1 = front_fits s Rests [] s.ready t kept.ready.each f in
    let u : State = record s { ready = drop 1 s.ready } in
    let first : has_id s.ready t.0 ≡ true = ap (λ (ids : List Id). has_id ids t.0) f.are ∙ rw (itself t.0 t.0 refl) refl in
    let begun : t.1.begun ≡ true = timer_begun p past s t.0 t.1 f.holds (ap is_timer rests.kind) (or_left _ _ first) k in
    call_heard p past s (restarted u t.0 t.1) t.1.name t.0 t (again_as u t.1 t.1)
    (again_touches s u t.0 t.1 t.1 (still_touches s (drop 1 s.ready) t.0 t.1 f.holds)) (grind arith)
    (λ i h. ap (λ (ids : List Id). has_id ids i) f.are ∙ or_right _ _ (sym (ap (λ (ids : List Id). has_id ids i) (again_ready u t.0 t.1)) ∙ h))
    (λ timer on. grind arith) k

due_heard : (p : Program) (past : List Seen) (s : State) (t : Id × HandleRecord) → FirstOf s s.timers t → Kept s → HeardAt p past s →
    HeardAt p (Seen.Call t.1.name t.0 ∷ past) (restarted (stopped s t.0 t.1) t.0 t.1)
due_heard p past s t f kept k =
    let set = (first_is s t f kept).set in
    let u : State = stopped s t.0 t.1 in
    let begun : t.1.begun ≡ true = timer_begun p past s t.0 t.1 f.holds (ap is_timer set.kind) (or_right _ _ set.active) k in
    call_heard p past s (restarted u t.0 t.1) t.1.name t.0 t (again_as u t.1 (records.stopped t.1))
    (again_touches s u t.0 t.1 (records.stopped t.1) (assumption f.holds)) (grind arith)
    (λ i h. fewer s.ready t.0 i (sym (ap (λ (ids : List Id). has_id ids i) (again_ready u t.0 t.1)) ∙ h)) (λ timer on. grind arith) k

collected_heard : (p : Program) (past : List Seen) (s : State) (t : Id × HandleRecord) → FirstOf s s.timers t → Kept s → HeardAt p past s →
    HeardAt p past (collected s t.0 t.1)
collected_heard p past s t f kept k =
    let set = (first_is s t f kept).set in
    let begun : t.1.begun ≡ true = timer_begun p past s t.0 t.1 f.holds (ap is_timer set.kind) (or_right _ _ set.active) k in
    heard_touched p past past s (collected s t.0 t.1) t.0 t.1 (records.stopped t.1) (λ y. y) (assumption f.holds) (λ i. grind arith) (λ v. refl) refl
    (λ i d h. sym (has_both s.ready (t.0 ∷ []) i ∙ grind (arith, turned)) ∙ h) (λ timer on. begun) k

-- a slot is freed or retired
freed_heard : (p : Program) (past : List Seen) (l : Seen) (s : State) (last : ℕ) (id : Id) (c : Content) → held s.arena.slots id ≡ Some c →
    ((i : Id) → facts_held p (l ∷ past) i ≡ (if same_id i id then None else facts_held p past i)) →
    ((v : Var) → bound p (l ∷ past) v ≡ bound p past v) → HeardAt p past s → Heard p (l ∷ past) (freed last id s.arena) s.names s.ready
freed_heard p past l s last id c e tells names k = record {
  stands = λ i. tells i ∙ stands i (same_id i id) refl;
  begun = λ i y f timer on. begins i y f timer on (same_id i id) refl;
  long = k.long;
  bound = λ v m. names v ∙ k.bound v m;
} where
  t : Turns s.arena.slots (freed last id s.arena).slots id (Some c) None
  t = freed_turns last s.arena id c e

  stands : (i : Id) (b : Bool) → same_id i id ≡ b → (if b then None else facts_held p past i)
      ≡ option_map facts_of (held (freed last id s.arena).slots i)
  stands i true d = let turns = turned_to t i in grind arith
  stands i false d = let turns = turned_to t i in grind (arith, k.stands)

  begins : (i : Id) (y : HandleRecord) → held_at (freed last id s.arena).slots i ≡ Some y → is_timer y.kind ≡ true →
      (has_id s.ready i || y.active) ≡ true → (b : Bool) → same_id i id ≡ b → y.begun ≡ true
  begins i y f timer on true d = let turns = turned_to t i in absurd (grind arith)
  begins i y f timer on false d = k.begun i y (sym (ap handle_in (t.others i (other i id d))) ∙ f) timer on

less_held : (p : Program) (past : List Seen) (l : Seen) (id i : Id) → holds_line p l (ids_held p past) ≡ without_id (ids_held p past) id →
    answered p l ≡ None → facts_held p (l ∷ past) i ≡ (if same_id i id then None else facts_held p past i)
less_held p past l id i e a = grind (arith, has_but_one)

sent_heard : (p : Program) (past : List Seen) (s : State) (v : Var) → HeardAt p past s →
    HeardFollows p past (Moves (ops.send s (live_handle s v)).state (Some (Seen.Send v (ops.send s (live_handle s v)).code)))
sent_heard p past s v k = send_both s v (λ (c : ops.Coded). HeardFollows p past (Moves c.state (Some (Seen.Send v c.code))))
    (λ c r. heard_hushed p past _ s.arena s.names s.ready (record { held = λ i. refl; bound = λ u. refl }) k)
    (λ t e is. heard_touched p past _ s (with_handle s t.0 (records.sent t.1)) t.0 t.1 (records.sent t.1) (λ y. y) (assumption (live_held s v t e))
    (λ i. grind arith) (λ u. refl) refl (λ i d h. h) (k.begun t.0 t.1 (live_held s v t e)) k)

cancelled_heard : (p : Program) (past : List Seen) (s : State) (v : Var) → HeardAt p past s →
    HeardFollows p past (Moves (ops.cancel s (live_request s v)).state (Some (Seen.Cancel v (ops.cancel s (live_request s v)).answer)))
cancelled_heard p past s v k = cancel_both s v (λ (d : ops.Done). HeardFollows p past (Moves d.state (Some (Seen.Cancel v d.answer))))
    (λ c r. heard_hushed p past _ s.arena s.names s.ready (record { held = λ i. refl; bound = λ u. refl }) k)
    (λ t live on. request_heard p past _ s t.0 t.1 _ live.holds (record { held = λ i. refl; bound = λ u. refl }) k)

pub did_heard : (p : Program) (past : List Seen) (s : State) (n : Next) → Did p s n → Kept s → KnownAt p past s → HeardAt p past s →
    HeardFollows p past n
did_heard p past s n (Did.still x time clock stop idled l q none) kept w k = still_heard p past s x time clock stop idled l q k
did_heard p past s n (Did.op x at o e) kept w k = did_op_heard p past s o (do_op s o) (op_did s o) kept w k at e
did_heard p past s n (Did.begun run WatcherKind.Idle e) kept w k = assumption
did_heard p past s n (Did.collected run part t f) kept w k = collected_heard p past s t f kept k
did_heard p past s n (Did.fired run t f) kept w k = search (called, fired_heard)
did_heard p past s n (Did.called_due run t f) kept w k = search (called, due_heard)
did_heard p past s n (Did.walked run WatcherKind.Idle t sync f) kept w k = search (called, heard_hushed)
did_heard p past s n (Did.woken run t f on) kept w k = called p _ (with_handle s t.0 (records.woken t.1)) t.1.name _ refl
    (call_heard p past s (with_handle s t.0 (records.woken t.1)) t.1.name t.0 t (records.woken t.1) (assumption f.holds) refl (λ i h. h)
    (k.begun t.0 t.1 f.holds) k)
did_heard p past s n (Did.closed run t f) kept w k = heard_names p _ _ _ s.names s.ready (counted_ids s.names t.1.name _ refl) (set_long s.names _ _)
    (freed_heard p past (Seen.Closed t.1.name t.0) s _ t.0 _ (is_held s.arena.slots t.0 t.1 f.holds)
    (λ i. less_held p past (Seen.Closed t.1.name t.0) t.0 i refl refl) (λ v. refl) k)
did_heard p past s n (Did.ended run t f) kept w k = heard_names p _ _ _ s.names s.ready (counted_ids s.names t.1.name _ refl) (set_long s.names _ _)
    (freed_heard p past (Seen.After (digest_in t.1.outcome) t.1.name t.0) s _ t.0 _ f.holds
    (λ i. less_held p past (Seen.After (digest_in t.1.outcome) t.1.name t.0) t.0 i refl refl) (λ v. refl) k)
did_heard p past s n (Did.finished n' t f) kept w k = search request_heard
did_heard p past s n each kept w k =
    search (
      still_heard,
      did_op_heard,
      op_did,
      heard_hushed,
      collected_heard,
      called,
      fired_heard,
      due_heard,
      call_heard,
      heard_names,
      counted_ids,
      set_long,
      freed_heard,
      is_held,
      less_held,
      request_heard,
      sent_heard,
      cancelled_heard,
    )

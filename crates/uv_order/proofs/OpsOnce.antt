-- What happens once, by the ops: what the line of each tells, and that the handles and the requests are as it tells.
use Rattle.uv_order.proofs.Names.{◌≡◌, ◌⊎◌, ℕ, List, ◌∷◌, ◌++◌, Bool, true, false, Option, Some, None, slice_set, if◌then◌else◌, refl, ap, sym, ◌∙◌, arith, list_any, or_left, same_Some, Id, Var, Code, Answer, Kind, Seen, Site, Op, Task, Program, op_at, HandleRecord, Slot, inited, Slots, held, taken, taken_from, next_free, next_id, Content, Request, queued, request_in, Cancelled, same_id, without_id, has_id, run_ids, State, named, handle, live, live_handle, with_request, stopped, do_op, makes, made_as, has_take_line, has_cancel_line, queued_task, []}
use Rattle.uv_records.specs.Handles as records
use Rattle.uv_model.specs.Ops as ops
use Rattle.uv_order.proofs.Lemmas.{has_both, has_but_one, on_list, same, itself, turned, still_absent, Turns, name_in, name_at, names_turned, same_handles, put, DidOp, IsAsked, IsLive, op_did, live_held, live_bound, IsRefusal, send_both, IsRef, request_turns, same_requests, AreFree, Kept, fills, taken_handle, IsGone, not_held, gone_push, gone_fill, gone_turned, Touches, start_touches, again_touches}
use Rattle.uv_order.proofs.Worked.{Worked, Tells, worked_told, worked_idle, worked_ended, worked_fewer, worked_queued}
use Rattle.uv_order.proofs.Known.{Known, IsQuiet, known_told, known_put, known_quiet, IsQuietOp, IsIdleOp, quiet_op, idle_op, known_close, known_bound, known_grown}

-- ---- ops

abbrev pub KnownAt : Program → List Seen → State → Type 0
KnownAt p past s = Known p past s.arena s.names s.waiting (run_ids s.running)

-- what is known with the line of an op
abbrev pub KnownBy : Program → List Seen → Op → ops.Done → Type 0
KnownBy p past o d = (place : Site) → op_at p place ≡ Some o → KnownAt p (Seen.Op place d.answer ∷ past) d.state

-- nobody has made the id that comes next
abbrev pub IsUnmade : Program → List Seen → State → Type 0
IsUnmade p past s = (id : Id) → next_free s.arena ≡ Some id → made_as p past id ≡ None

-- an op that neither binds nor closes, whatever it answers
abbrev pub Harmless : Op → Type 0
Harmless o = (a : Answer) → IsQuietOp o a × IsIdleOp o a

pub known_by : (p : Program) (past : List Seen) (o : Op) (d : ops.Done) → IsQuietOp o d.answer × IsIdleOp o d.answer → KnownAt p past d.state →
    KnownBy p past o d
known_by p past o d q k place e = search (known_quiet, past, quiet_op, idle_op)

-- the record of a handle changes, which goes on closing or not as before
pub changed : (p : Program) (past : List Seen) (s : State) (t : Id × HandleRecord) (x : HandleRecord) → handle s t.0 ≡ Some t.1 →
    x.closing ≡ t.1.closing → x.name ≡ t.1.name →
    KnownAt p past s → Known p past (record s.arena { slots = put s.arena.slots t.0 x }) s.names s.waiting (run_ids s.running)
changed p past s t x e o called k = known_put p past s.arena s.names t.0 t.1 x e o called k

pub touched : (p : Program) (past : List Seen) (s u : State) (id : Id) (h x : HandleRecord) → Touches s id h x u → x.closing ≡ h.closing →
    KnownAt p past s → KnownAt p past u
touched p past s u id h x t o k =
    rw (t.arena, t.names, t.waiting, t.running) (known_put p past s.arena s.names id h x t.holds o t.name k)

-- the next taking
pub gone_taken : (s : Slots Content) (free : List ℕ) (id : Id) (x : Content) → s.free ≡ free → AreFree s.slots free →
    next_id s.slots s.unused free ≡ Some id → (i : Id) → IsGone s.slots free i → IsGone (taken_from free id x s).slots (taken_from free id x s).free i
gone_taken s free id x eq are e i g = grind (arith, same, same_Some, gone_push, gone_fill)

-- the id that the next taking gives isn't gone, since it is held then
pub next_not_gone : (s : Slots Content) (free : List ℕ) (id : Id) (x : Content) → s.free ≡ free → AreFree s.slots free →
    next_id s.slots s.unused free ≡ Some id → IsGone s.slots free id → ⊥
next_not_gone s free id x eq are e g = not_held _ _ id x (gone_taken s free id x eq are e id g) (fills s free id x eq are e).0.here

-- an id is new: nothing is held under it, and so what is held has the name that it had
new_name : (slots more : List (Slot Content)) (id : Id) (c : Option Content) (v : Var) (i : Id) (u : Var) → Turns slots more id None c →
    name_at slots i ≡ Some u → (if same_id id i then Some v else name_at slots i) ≡ Some u
new_name slots more id c v i u t e = grind arith

-- what is held now under the new id is called as the line says, and all else as before
new_or_old : (slots more : List (Slot Content)) (id : Id) (c : Content) (v : Var) (i : Id) (u : Var) → name_in c ≡ v →
    Turns slots more id None (Some c) → name_at more i ≡ Some u → (if same_id id i then Some v else name_at slots i) ≡ Some u
new_or_old slots more id c v i u is t e = grind arith

-- so the lines tell it of each
made_now : (p : Program) (past : List Seen) (place : Site) (o : Op) (slots more : List (Slot Content)) (id : Id) (c : Content) (v : Var) (i : Id)
    (u : Var) → op_at p place ≡ Some o → ((j : Id) → makes o (Answer.Id id) j ≡ (if same_id id j then Some v else None)) → name_in c ≡ v →
    Turns slots more id None (Some c) → ((j : Id) (w : Var) → name_at slots j ≡ Some w → made_as p (Seen.Op place (Answer.Id id) ∷ past) j ≡ Some w) →
    name_at more i ≡ Some u → made_as p (Seen.Op place (Answer.Id id) ∷ past) i ≡ Some u
made_now p past place o slots more id c v i u e m is t k h = grind arith

pub new_known : (p : Program) (past : List Seen) (s : State) (v : Var) (q : Kind) (id : Id) → next_free s.arena ≡ Some id → Kept s →
    IsUnmade p past s → KnownAt p past s → KnownBy p past (Op.Init v q) (record { state = ops.with_new s v q id; answer = Answer.Id id })
new_known p past s v q id e kept unmade k place at = by q known where
  now : Slots Content
  now = taken id (Content.Handle (inited v q)) s.arena

  turns : Turns s.arena.slots now.slots id None (Some (Content.Handle (inited v q)))
  turns = (fills s.arena s.arena.free id (Content.Handle (inited v q)) refl kept.free e).0

  -- with the line, and before the slot is taken
  told : Known p (Seen.Op place (Answer.Id id) ∷ past) s.arena (slice_set s.names v.0 (record (named s v) { id = Some id })) s.waiting
      (run_ids s.running)
  told = known_bound p past place v (Op.Init v q) s.arena s.arena s.names id (record (named s v) { id = Some id }) at (λ u b. refl) (λ i. refl)
      (unmade id e) (λ j u g. new_name s.arena.slots _ id (Some (Content.Handle (inited v q))) v j u turns g) refl refl (λ j. refl) (λ j h. h)
      (worked_idle p past (Seen.Op place (Answer.Id id)) _ _ _ (idle_op p place (Op.Init v q) (Answer.Id id) at (λ i. (refl, refl))) k.worked) k

  known : Known p (Seen.Op place (Answer.Id id) ∷ past) now (slice_set s.names v.0 (record (named s v) { id = Some id })) s.waiting
      (run_ids s.running)
  known = known_grown p (Seen.Op place (Answer.Id id) ∷ past) s.arena now _ id (inited v q)
      (taken_handle s.arena s.arena.free id (inited v q) refl kept.free e).0 (same_requests s.arena.slots _ id _ _ turns refl refl) refl
      (λ j u h. made_now p past place (Op.Init v q) s.arena.slots _ id (Content.Handle (inited v q)) v j u at (λ i. refl) refl turns told.made h)
      (gone_taken s.arena s.arena.free id (Content.Handle (inited v q)) refl kept.free e) told

  by : (x : Kind) → Known p (Seen.Op place (Answer.Id id) ∷ past) (taken id (Content.Handle (inited v x)) s.arena)
      (slice_set s.names v.0 (record (named s v) { id = Some id })) s.waiting (run_ids s.running) →
      KnownAt p (Seen.Op place (Answer.Id id) ∷ past) (ops.with_new s v x id)
  by x w = grind arith

listed : (ids : List Id) (i j : Id) → has_id (ids ++ i ∷ []) j ≡ true → (i ≡ j) ⊎ (has_id ids j ≡ true)
listed ids i j h = grind (arith, has_both, same)

-- a slot is taken for a request
pub queued_known : (p : Program) (past : List Seen) (s : State) (v : Var) (task : Task) (id : Id) → next_free s.arena ≡ Some id → Kept s →
    IsUnmade p past s → KnownAt p past s → KnownBy p past (Op.Queue v task) (record { state = ops.with_queued s v task id; answer = Answer.Id id })
queued_known p past s v task id e kept unmade k place at =
    let c = Content.Request (queued v task) in
    let now = taken id c s.arena in
    let t = (fills s.arena s.arena.free id c refl kept.free e).0 in
    let gone = gone_taken s.arena s.arena.free id c refl kept.free e in
    let fresh = next_not_gone s.arena s.arena.free id c refl kept.free e in
    let w : Worked p (Seen.Op place (Answer.Id id) ∷ past) now (s.waiting ++ id ∷ []) (run_ids s.running) =
    worked_queued p past place v task s.arena now s.waiting (run_ids s.running) (s.waiting ++ id ∷ []) id at t fresh (listed s.waiting id) gone
    k.worked in
    search (known_bound, past, new_or_old, same_handles, gone)

pub fewer : (ids : List Id) (id i : Id) → has_id (without_id ids id) i ≡ true → has_id ids i ≡ true
fewer ids id i e = grind (arith, still_absent)

-- the line of an accepted cancel: its request waits no more, the line tells of it, and it ended so
pub cancel_told : (p : Program) (past : List Seen) (l : Seen) (s : State) (t : Id × Request) →
    Tells p l (λ i. same_id t.0 i) → IsQuiet p l → held s.arena.slots t.0 ≡ Some (Content.Request t.1) →
    list_any (same_id t.0) s.waiting ≡ true → KnownAt p past s → KnownAt p (l ∷ past) (ops.cancelled s t.0 t.1)
cancel_told p past l s t tells q e on k =
    let x : Request = record t.1 { outcome = Cancelled } in
    let rest : List Id = without_id s.waiting t.0 in
    let runs : List Id = run_ids s.running in
    let turns = request_turns s.arena.slots t.0 t.1 x e in
    let still : (i : Id) → IsGone s.arena.slots s.arena.free i → IsGone (with_request s t.0 x).arena.slots (with_request s t.0 x).arena.free i =
    λ i g. gone_turned s.arena.slots s.arena.free t.0 (Content.Request t.1) (Some (Content.Request x)) i e g in
    let few : Worked p past s.arena rest runs =
    worked_fewer p past s.arena s.waiting runs rest runs (λ i h. fewer s.waiting t.0 i h) (λ i h. h) k.worked in
    let said : Worked p (l ∷ past) s.arena rest runs = worked_told p past l s.arena rest runs (λ i. same_id t.0 i) tells was_queued gone few in
    known_told p past l s.arena (with_request s t.0 x).arena s.names q (same_handles s.arena.slots _ t.0 _ _ turns refl refl)
    (names_turned s.arena.slots _ t.0 _ _ turns (λ v f. f)) still
    (worked_ended p (l ∷ past) s.arena (with_request s t.0 x).arena rest runs t.0 t.1 x turns refl (untaken, its_line) still said) k
  where
    was_queued : (i : Id) → same_id t.0 i ≡ true → queued_task p past i ≡ None → ⊥
    was_queued i f none = cc (sym none ∙ ap (queued_task p past) (sym (same t.0 i f)) ∙ k.worked.queued t.0 t.1 (ap request_in e))

    gone : (i : Id) → has_id (without_id s.waiting t.0) i ≡ true → same_id t.0 i ≡ false
    gone i h = grind (arith, has_but_one, turned)

    untaken : has_take_line (l ∷ past) t.0 ≡ false
    untaken = rw (tells.taken t.0) (k.worked.waits t.0 (on_list s.waiting t.0 on))

    its_line : has_cancel_line p (l ∷ past) t.0 ≡ true
    its_line = or_left _ _ (tells.cancelled t.0 ∙ itself t.0 t.0 refl)

-- all but these tell nothing of names, of closing and of requests
abbrev is_harmless : Op → Bool
is_harmless (Op.Init v q) = false
is_harmless (Op.Queue v task) = false
is_harmless (Op.Cancel v) = false
is_harmless (Op.Close v) = false
is_harmless o = true

pub harmless : (o : Op) → is_harmless o ≡ true → Harmless o
harmless o e a = grind arith

pub asked_harmless : (o : Op) → IsAsked o → is_harmless o ≡ true
asked_harmless o a = grind arith

pub refused_harmless : (o : Op) (c : Code) → IsRefusal c → IsQuietOp o (Answer.Code c) × IsIdleOp o (Answer.Code c)
refused_harmless o c r = grind arith

cancel_op_known : (p : Program) (past : List Seen) (s : State) (v : Var) (t : Id × Request) → IsLive s v t.0 (Content.Request t.1) →
    list_any (same_id t.0) s.waiting ≡ true → KnownAt p past s →
    KnownBy p past (Op.Cancel v) (record { state = ops.cancelled s t.0 t.1; answer = Answer.Cancelled t.0 })
cancel_op_known p past s v t live on k place at = cancel_told p past (Seen.Op place (Answer.Cancelled t.0)) s t
    (grind arith) (quiet_op p place (Op.Cancel v) (Answer.Cancelled t.0) at (assumption)) live.holds on k

did_op_known : (p : Program) (past : List Seen) (s : State) (o : Op) (d : ops.Done) → DidOp s o d → Kept s →
    IsUnmade p past s → KnownAt p past s → KnownBy p past o d
did_op_known p past s o d (DidOp.refused o' c r may) kept unmade k = known_by p past o d (grind arith) k
did_op_known p past s o d (DidOp.asked o' a is) kept unmade k = known_by p past o d (harmless o' (asked_harmless o' is) a) k
did_op_known p past s o d (DidOp.made v q id e) kept unmade k = new_known p past s v q id e kept unmade k
did_op_known p past s o d (DidOp.queued v task id e) kept unmade k = queued_known p past s v task id e kept unmade k
did_op_known p past s o d (DidOp.cancelled v t live on) kept unmade k = cancel_op_known p past s v t live on k
did_op_known p past s o d (DidOp.started v timeout repeat t e is stays) kept unmade k = known_by p past o d (harmless o refl _)
    (touched p past s d.state t.0 t.1 _ (start_touches s (stopped s t.0 t.1) t.0 t.1 (records.stopped t.1) timeout repeat
    (assumption (live_held s v t e))) refl k)
did_op_known p past s o d (DidOp.again v t e is stays begun) kept unmade k = known_by p past o d (harmless (Op.Again v) refl _)
    (touched p past s d.state t.0 t.1 _ (again_touches s (stopped s t.0 t.1) t.0 t.1 (records.stopped t.1) (assumption (live_held s v t e)))
    (grind arith) k)
did_op_known p past s o d (DidOp.watching v q t e is off stays) kept unmade k = search (known_by, past, harmless, changed, live_held)
did_op_known p past s o d (DidOp.io_started v t e is off stays) kept unmade k = search (known_by, past, harmless, changed, live_held)
did_op_known p past s o d (DidOp.stopped v t e sync) kept unmade k = search (known_by, past, harmless, changed, live_held)
did_op_known p past s o d (DidOp.closed v t e stays) kept unmade k = search (known_close, live_bound, live_held)
did_op_known p past s o d (DidOp.repeated v n t e) kept unmade k = search (known_by, past, harmless, changed, live_held)
did_op_known p past s o d (DidOp.referenced o' u flag t e (IsRef.ref v)) kept unmade k = search (known_by, past, harmless, changed, live_held)
did_op_known p past s o d (DidOp.referenced o' u flag t e each) kept unmade k = search (known_by, past, harmless, changed, live_held)
did_op_known p past s o d (DidOp.sent_to v t e is stays) kept unmade k = search (known_by, past, harmless, changed, live_held)
did_op_known p past s o d each kept unmade k = search (known_by, past, harmless)

pub op_known : (p : Program) (past : List Seen) (s : State) (o : Op) → Kept s → IsUnmade p past s → KnownAt p past s → KnownBy p past o (do_op s o)
op_known p past s o kept unmade k = did_op_known p past s o (do_op s o) (op_did s o) kept unmade k

pub send_known : (p : Program) (past : List Seen) (s : State) (v : Var) → KnownAt p past s → KnownAt p past (ops.send s (live_handle s v)).state
send_known p past s v k = send_both s v (λ (c : ops.Coded). KnownAt p past c.state) (λ c no_success. k)
    (λ t e stays. changed p past s t (records.sent t.1) (live_held s v t e) refl refl k)

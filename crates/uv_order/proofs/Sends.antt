-- Who was sent to, by the lines and by the handles: each step keeps that they agree.
use Rattle.uv_order.proofs.Names.{arith, ◌≡◌, ℕ, List, ◌∷◌, ◌++◌, Bool, true, false, drop, Option, Some, None, Ok, refl, ap, sym, subst, ◌∙◌, cond_both, both_ways, false_from_ne_true, Id, Var, Answer, Kind, Op, Task, Program, arena_size, HandleRecord, Slot, inited, repeating, close_refusal, held, freed, taken, next_free, Walk, Content, Request, queued, same_id, without_id, State, fresh, handle, with_request, live, live_handle, stopped, restarted, do_op, Next, Moves, Refuses, has_id, Told, told_by, Names, sent_by, sent_after, ids_of, without_ids, taken_off, AllOff, AllOffOrUnsent, handle_in, kind_as, watched, Phase, WatcherKind, []}
use Rattle.uv_records.specs.Handles as records
use Rattle.uv_model.specs.Ops as ops
use Rattle.uv_order.proofs.Lemmas.{has_both, same, other, itself, turned, left_of, without_itself, has_without, without_absent, still_there, Turns, emptied, grown_at, SameHandles, same_handles, held_at, put, put_same, put_other, emptied_same, emptied_other, Grown, Everyone, DidOp, IsAsked, IsRef, op_did, Agrees, live_held, refuses_close, on_handle_both, make_both, FrontRequest, request_turns, freed_turns, one_taken, Watches, Rests, Kept, members, fills, taken_handle, open_shut, Did, FrontOf, FirstOf, IsStill, Touches, start_touches, again_touches, Closes}
use Rattle.uv_order.proofs.KeptSteps.{first_is, front_fits}

-- ---- what agrees

-- the handle is pending
abbrev pub pends_in : Option HandleRecord → Bool
pends_in None = false
pends_in (Some h) = h.pending

abbrev pub pends : List (Slot Content) → Id → Bool
pends slots id = pends_in (held_at slots id)

-- those that were sent to are pending, and nobody else; and a pending handle is an async one that doesn't close
pub record Sent (sent : List Id) (slots : List (Slot Content)) : Type 0 where
  pub are : (id : Id) → has_id sent id ≡ pends slots id
  pub each : (id : Id) (h : HandleRecord) → held_at slots id ≡ Some h → h.pending ≡ true → (h.kind ≡ Kind.Async) × (h.closing ≡ false)

abbrev pub SentAt : List Id → State → Type 0
SentAt sent s = Sent sent s.arena.slots

pub pends_there : (slots : List (Slot Content)) (id i : Id) (h x : HandleRecord) → held_at slots id ≡ Some h → same_id i id ≡ false →
    pends (put slots id x) i ≡ pends slots i
pends_there slots id i h x e d = ap pends_in (put_other slots id i h x e (other i id d))

-- a handle that is pending now lets whoever was pending be so
pub pends_more : (slots : List (Slot Content)) (id : Id) (h x : HandleRecord) → held_at slots id ≡ Some h → x.pending ≡ true → (i : Id) →
    pends slots i ≡ true → pends (put slots id x) i ≡ true
pends_more slots id h x e p i on = grind (arith, same, other, put_same, put_other)

-- a pending handle after a change, where the changed one is such a handle if it is pending
each_put : (sent : List Id) (slots : List (Slot Content)) (id : Id) (h x : HandleRecord) → held_at slots id ≡ Some h →
    (x.pending ≡ true → (x.kind ≡ Kind.Async) × (x.closing ≡ false)) → Sent sent slots → (i : Id) (y : HandleRecord) →
    held_at (put slots id x) i ≡ Some y → y.pending ≡ true → (y.kind ≡ Kind.Async) × (y.closing ≡ false)
each_put sent slots id h x e f k i y l on = grind (arith, same, other, put_same, put_other)

-- a handle is changed that is pending as before
pub sent_put : (sent : List Id) (slots : List (Slot Content)) (id : Id) (h x : HandleRecord) → held_at slots id ≡ Some h → x.pending ≡ h.pending →
    x.kind ≡ h.kind → x.closing ≡ h.closing → Sent sent slots → Sent sent (put slots id x)
sent_put sent slots id h x e p q o k = grind (arith, same, other, put_same, put_other)

-- one is sent to
pub sent_more : (sent : List Id) (slots : List (Slot Content)) (id : Id) (h x : HandleRecord) → held_at slots id ≡ Some h → x.pending ≡ true →
    x.kind ≡ Kind.Async → x.closing ≡ false → Sent sent slots → Sent (id ∷ sent) (put slots id x)
sent_more sent slots id h x e p q o k = grind (arith, same, itself, turned, put_same, pends_there, each_put)

-- one isn't pending any more
pub sent_clear : (sent : List Id) (slots : List (Slot Content)) (id : Id) (h x : HandleRecord) → held_at slots id ≡ Some h → x.pending ≡ false →
    Sent sent slots → Sent (without_id sent id) (put slots id x)
sent_clear sent slots id h x e p k = grind (arith, same, without_itself, has_without, put_same, pends_there, each_put)

-- one that isn't pending is called
pub sent_none : (sent : List Id) (slots : List (Slot Content)) (id : Id) (h : HandleRecord) → held_at slots id ≡ Some h → h.pending ≡ false →
    Sent sent slots → Sent (without_id sent id) slots
sent_none sent slots id h e p k = grind (arith, without_absent)

-- a new handle isn't pending
pub sent_new : (sent : List Id) (slots more : List (Slot Content)) (id : Id) (x : HandleRecord) → Grown slots more id x → x.pending ≡ false →
    Sent sent slots → Sent (without_id sent id) more
sent_new sent slots more id x g p k = record { are = λ i. are i; each = λ i y e on. each i y e on } where
  are : (i : Id) → has_id (without_id sent id) i ≡ pends more i
  are i = grind (arith, same, without_itself, has_without, grown_at g)

  each : (i : Id) (y : HandleRecord) → held_at more i ≡ Some y → y.pending ≡ true → (y.kind ≡ Kind.Async) × (y.closing ≡ false)
  each i y e on = grind (arith, grown_at g)

-- no handle changes
pub sent_same : (sent : List Id) (slots more : List (Slot Content)) → SameHandles more slots → Sent sent slots → Sent sent more
sent_same sent slots more f k = grind arith

sent_turned : (sent : List Id) (slots more : List (Slot Content)) (id : Id) (was is : Option Content) → Turns slots more id was is →
    handle_in was ≡ None → handle_in is ≡ None → Sent sent slots → Sent sent more
sent_turned sent slots more id was is t e f k = sent_same sent slots more (same_handles slots more id was is t e f) k

-- a closing handle goes
pub sent_gone : (sent : List Id) (slots : List (Slot Content)) (id : Id) (h : HandleRecord) (n : ℕ) → held_at slots id ≡ Some h →
    h.closing ≡ true → Sent sent slots → Sent sent (emptied slots id n)
sent_gone sent slots id h n e shut k = grind (arith, same, other, emptied_same, emptied_other, open_shut)

-- ---- ops

-- who was sent to after an op, by its line and by the handles
abbrev pub SentBy : Names → State → List Id → Op → ops.Done → Type 0
SentBy names s sent o d = SentAt (sent_by o d.answer names sent) d.state

asked_sent : (names : Names) (sent : List Id) (o : Op) (a : Answer) → IsAsked o → sent_by o a names sent ≡ sent
asked_sent names sent o a is = grind arith

changed : (s : State) (sent : List Id) (t : Id × HandleRecord) (x : HandleRecord) → handle s t.0 ≡ Some t.1 → x.pending ≡ t.1.pending →
    x.kind ≡ t.1.kind → x.closing ≡ t.1.closing → SentAt sent s → Sent sent (put s.arena.slots t.0 x)
changed s sent t x e p q o k = sent_put sent s.arena.slots t.0 t.1 x e p q o k

touched : (s u : State) (sent : List Id) (id : Id) (h x : HandleRecord) → Touches s id h x u → x.pending ≡ h.pending → x.kind ≡ h.kind →
    x.closing ≡ h.closing → SentAt sent s → SentAt sent u
touched s u sent id h x t p q o k = rw t.arena (sent_put sent s.arena.slots id h x t.holds p q o k)

again_sent : (s : State) (sent : List Id) (t : Id × HandleRecord) → handle s t.0 ≡ Some t.1 → SentAt sent s →
    SentAt sent (restarted (stopped s t.0 t.1) t.0 t.1)
again_sent s sent t e k =
    touched s _ sent t.0 t.1 _ (again_touches s (stopped s t.0 t.1) t.0 t.1 (records.stopped t.1) (assumption e))
    (grind arith) (grind arith) (grind arith) k

new_sent : (s : State) (sent : List Id) (v : Var) (q : Kind) (id : Id) → next_free s.arena ≡ Some id → Kept s → SentAt sent s →
    SentAt (without_id sent id) (ops.with_new s v q id)
new_sent s sent v q id e kept k = by q where
  new : (x : Kind) → Sent (without_id sent id) (taken id (Content.Handle (inited v x)) s.arena).slots
  new x = sent_new sent s.arena.slots _ id (inited v x) (taken_handle s.arena s.arena.free id (inited v x) refl kept.free e).0 refl k

  by : (x : Kind) → SentAt (without_id sent id) (ops.with_new s v x id)
  by Kind.Timer = new Kind.Timer
  by each = new each

-- requests change no handle
queued_sent : (s : State) (sent : List Id) (v : Var) (task : Task) (id : Id) → next_free s.arena ≡ Some id → Kept s → SentAt sent s →
    SentAt sent (ops.with_queued s v task id)
queued_sent s sent v task id e kept k = sent_turned sent s.arena.slots _ id None (Some (Content.Request (queued v task)))
    (fills s.arena s.arena.free id (Content.Request (queued v task)) refl kept.free e).0 refl refl k

request_sent : (s : State) (sent : List Id) (id : Id) (r x : Request) → held s.arena.slots id ≡ Some (Content.Request r) → SentAt sent s →
    SentAt sent (with_request s id x)
request_sent s sent id r x e k = sent_turned sent s.arena.slots _ id _ _ (request_turns s.arena.slots id r x e) refl refl k

close_sent : (names : Names) (s : State) (sent : List Id) (v : Var) (t : Id × HandleRecord) → Agrees names s → live_handle s v ≡ Ok t →
    SentAt sent s → SentBy names s sent (Op.Close v) (ops.close s t.0 t.1)
close_sent names s sent v t a e k =
    subst (λ (ids : List Id). Sent (without_ids sent ids) (put s.arena.slots t.0 (records.closed t.1))) (sym (one_taken names s v t a e))
    (sent_clear sent s.arena.slots t.0 t.1 (records.closed t.1) (live_held s v t e) refl k)

did_op_sent : (names : Names) (s : State) (sent : List Id) (o : Op) (d : ops.Done) → DidOp s o d → Agrees names s → Kept s → SentAt sent s →
    SentBy names s sent o d
did_op_sent names s sent o d (DidOp.refused o' c r may) x kept k = subst (λ (ids : List Id). SentAt ids s) (sym (grind arith)) k
did_op_sent names s sent o d (DidOp.asked o' a is) x kept k = subst (λ (ids : List Id). SentAt ids s) (sym (asked_sent names sent o' a is)) k
did_op_sent names s sent o d (DidOp.made v q id e) x kept k = new_sent s sent v q id e kept k
did_op_sent names s sent o d (DidOp.queued v task id e) x kept k = queued_sent s sent v task id e kept k
did_op_sent names s sent o d (DidOp.cancelled v t live on) x kept k = request_sent s sent t.0 t.1 _ live.holds k
did_op_sent names s sent o d (DidOp.started v timeout repeat t e is stays) x kept k = touched s d.state sent t.0 t.1 _
    (start_touches s (stopped s t.0 t.1) t.0 t.1 (records.stopped t.1) timeout repeat (assumption (live_held s v t e))) refl refl refl k
did_op_sent names s sent o d (DidOp.again v t e is stays begun) x kept k = again_sent s sent t (live_held s v t e) k
did_op_sent names s sent o d (DidOp.watching v WatcherKind.Idle t e is off stays) x kept k = search (changed, live_held)
did_op_sent names s sent o d (DidOp.watching v each t e is off stays) x kept k = search (changed, live_held)
did_op_sent names s sent o d (DidOp.io_started v t e is off stays) x kept k = search (changed, live_held)
did_op_sent names s sent o d (DidOp.stopped v t e sync) x kept k = changed s sent t (records.stopped t.1) (live_held s v t e) refl refl refl k
did_op_sent names s sent o d (DidOp.closed v t e stays) x kept k = close_sent names s sent v t x e k
did_op_sent names s sent o d (DidOp.repeated v n t e) x kept k = changed s sent t (repeating n t.1) (live_held s v t e) refl refl refl k
did_op_sent names s sent o d (DidOp.referenced o' u flag t e (IsRef.ref v)) x kept k = search (changed, live_held)
did_op_sent names s sent o d (DidOp.referenced o' u flag t e each) x kept k = search (changed, live_held)
did_op_sent names s sent o d (DidOp.sent_to v t e is stays) x kept k =
    subst (λ (ids : List Id). Sent (ids ++ sent) (put s.arena.slots t.0 (records.sent t.1))) (sym (one_taken names s v t x e))
    (sent_more sent s.arena.slots t.0 t.1 (records.sent t.1) (live_held s v t e) refl is stays k)
did_op_sent names s sent o d each x kept k = assumption

pub op_sent : (names : Names) (s : State) (sent : List Id) (o : Op) → Agrees names s → Kept s → SentAt sent s → SentBy names s sent o (do_op s o)
op_sent names s sent o x kept k = did_op_sent names s sent o (do_op s o) (op_did s o) x kept k

-- ---- steps

-- who was sent to after a step, by the lines so far and by the handles
abbrev pub SentFollows : Program → Told → Names → State → Next → Type 0
SentFollows p told names s (Moves t (Some l)) = SentAt (told_by p told names l).sent t
SentFollows p told names s (Moves t None) = SentAt told.sent t
SentFollows p told names s (Refuses why) = Unit {0}

-- a handle that isn't an async one isn't pending
not_pending : (sent : List Id) (slots : List (Slot Content)) (id : Id) (h : HandleRecord) (q : Kind) → held_at slots id ≡ Some h → h.kind ≡ q →
    (q ≡ Kind.Async → ⊥) → Sent sent slots → h.pending ≡ false
not_pending sent slots id h q e is apart k = false_from_ne_true h.pending (λ on. apart (sym is ∙ (k.each id h e on).0))

fired_sent : (s : State) (sent : List Id) (t : Id × HandleRecord) → FrontOf s s.ready t → Kept s → SentAt sent s →
    SentAt (without_id sent t.0) (restarted (record s { ready = drop 1 s.ready }) t.0 t.1)
fired_sent s sent t f kept k =
    let is : t.1.kind ≡ Kind.Timer = (front_fits s Rests [] s.ready t kept.ready.each f).kind in
    let off = not_pending sent s.arena.slots t.0 t.1 Kind.Timer f.holds is (λ c. cc c) k in
    let u : State = record s { ready = drop 1 s.ready } in
    let called : SentAt (without_id sent t.0) u = sent_none sent s.arena.slots t.0 t.1 f.holds off k in
    grind (arith, cond_both, changed)

-- a timer that is due is called straight from the order of timers
due_sent : (s : State) (sent : List Id) (t : Id × HandleRecord) → FirstOf s s.timers t → Kept s → SentAt sent s →
    SentAt (without_id sent t.0) (restarted (stopped s t.0 t.1) t.0 t.1)
due_sent s sent t f kept k =
    let off = not_pending sent s.arena.slots t.0 t.1 Kind.Timer f.holds (first_is s t f kept).set.kind (λ c. cc c) k in
    again_sent s (without_id sent t.0) t f.holds (sent_none sent s.arena.slots t.0 t.1 f.holds off k)

unsent_called : (s : State) (sent : List Id) (q : Kind) (w : Walk Id) (t : Id × HandleRecord) → (q ≡ Kind.Async → ⊥) →
    Everyone s.arena.slots (Watches q) (members w) → FrontOf s w.yet t → SentAt sent s → Sent (without_id sent t.0) s.arena.slots
unsent_called s sent q w t apart every f k = sent_none sent s.arena.slots t.0 t.1 f.holds
    (not_pending sent s.arena.slots t.0 t.1 q f.holds (front_fits s (Watches q) w.list w.yet t every.each f).kind apart k) k

closed_sent : (p : Program) (s : State) (sent : List Id) (t : Id × HandleRecord) → FrontOf s s.closing.yet t → Kept s → SentAt sent s →
    Sent sent (freed (arena_size p).last_generation t.0 s.arena).slots
closed_sent p s sent t f kept k =
    let shut : t.1.closing ≡ true = front_fits s Closes s.closing.list s.closing.yet t kept.closing.each f in grind (arith, sent_gone)

-- a request calls back
ended_sent : (p : Program) (s : State) (sent : List Id) (t : Id × Request) → FrontRequest s s.done.yet t → SentAt sent s →
    Sent sent (freed (arena_size p).last_generation t.0 s.arena).slots
ended_sent p s sent t f k = sent_turned sent s.arena.slots _ t.0 _ _
    (freed_turns (arena_size p).last_generation s.arena t.0 (Content.Request t.1) f.holds) refl refl k

-- an op of a place, by its line
placed_sent : (p : Program) (names : Names) (s : State) (sent : List Id) (o : Op) (at : Option Op) → at ≡ Some o → Agrees names s → Kept s →
    SentAt sent s → SentAt (sent_after at (do_op s o).answer names sent) (do_op s o).state
placed_sent p names s sent o at e x kept k = grind (arith, op_sent)

pub did_sent : (p : Program) (told : Told) (names : Names) (s : State) (n : Next) → Did p s n → Agrees names s → Kept s → SentAt told.sent s →
    SentFollows p told names s n
did_sent p told names s n (Did.refused why) x kept k = tt
did_sent p told names s n (Did.still y time clock stop idled l IsStill.unseen none) x kept k = k
did_sent p told names s n (Did.op y at o e) x kept k = placed_sent p names s told.sent o _ e x kept k
did_sent p told names s n (Did.begun run WatcherKind.Idle e) x kept k = k
did_sent p told names s n (Did.collected run part t f) x kept k = changed s told.sent t (records.stopped t.1) f.holds refl refl refl k
did_sent p told names s n (Did.fired run t f) x kept k = fired_sent s told.sent t f kept k
did_sent p told names s n (Did.called_due run t f) x kept k = due_sent s told.sent t f kept k
did_sent p told names s n (Did.walked run WatcherKind.Async t sync f) x kept k = absurd sync
did_sent p told names s n (Did.walked run q t sync f) x kept k =
    unsent_called s told.sent (kind_as q) (watched s q) t (λ c. cc c) (kept.watchers q) f k
did_sent p told names s n (Did.woken run t f on) x kept k = sent_clear told.sent s.arena.slots t.0 t.1 (records.woken t.1) f.holds refl k
did_sent p told names s n (Did.closed run t f) x kept k = closed_sent p s told.sent t f kept k
did_sent p told names s n (Did.ended run t f) x kept k = ended_sent p s told.sent t f k
did_sent p told names s n (Did.finished n' t f) x kept k = request_sent s told.sent t.0 t.1 _ f.holds k
did_sent p told names s n (Did.sent v) x kept k = op_sent names s told.sent (Op.Send v) x kept k
did_sent p told names s n (Did.cancelled v) x kept k = op_sent names s told.sent (Op.Cancel v) x kept k
did_sent p told names s n each x kept k = k

pub sent_fresh : (p : Program) → SentAt [] (fresh p)
sent_fresh p = record { are = λ id. refl; each = λ id h e. cc e }

-- ---- who is left of an async section

still_closed : (sent ids : List Id) (one id : Id) → ids ≡ one ∷ [] → has_id ids id ≡ false → has_id sent id ≡ true →
    has_id (without_ids sent ids) id ≡ true
still_closed sent ids one id f g e = grind (arith, still_there, turned)

-- what an op doesn't take off stays sent to, if it is held
pub stays_sent : (names : Names) (s : State) (sent : List Id) (o : Op) (id : Id) → Agrees names s → Kept s →
    has_id (taken_off Phase.Async names o (do_op s o).answer) id ≡ false →
    pends s.arena.slots id ≡ true → has_id sent id ≡ true → has_id (sent_by o (do_op s o).answer names sent) id ≡ true
stays_sent names s sent (Op.Init v q) id x kept d on e = at (live s v) where
  new : (i : Id) → next_free s.arena ≡ Some i → same_id id i ≡ false
  new i f = false_from_ne_true (same_id id i) (λ g.
      let grown = (taken_handle s.arena s.arena.free i (inited v q) refl kept.free f).0 in
      both_ways (pends s.arena.slots id) (ap (pends s.arena.slots) (same id i g) ∙ ap pends_in grown.new) on)

  at : (t : Option (Id × Content)) → has_id (sent_by (Op.Init v q) (ops.make s t (ops.with_new s v q)).answer names sent) id ≡ true
  at t = make_both s t (ops.with_new s v q) (λ (x : ops.Done). has_id (sent_by (Op.Init v q) x.answer names sent) id ≡ true)
      (λ c no_success. e) (λ i f. still_there sent i id (new i f) e)
stays_sent names s sent (Op.Close v) id x kept d on e =
    on_handle_both s v close_refusal (ops.close s)
    (λ (x : ops.Done). has_id (taken_off Phase.Async names (Op.Close v) x.answer) id ≡ false → has_id
    (sent_by (Op.Close v) x.answer names sent) id ≡ true)
    refuses_close
    (λ c no_success f. subst (λ (ids : List Id). has_id ids id ≡ true) (sym (grind arith)) e)
    (λ t f is g. still_closed sent (ids_of names (Some v)) t.0 id (one_taken names s v t x f) g e) d
stays_sent names s sent each id x kept d on e = grind arith

-- who is left after an op
pub has_left : (ids off : List Id) (id : Id) → has_id (left_of ids off) id ≡ true → (has_id ids id ≡ true) × (has_id off id ≡ false)
has_left [] off id e = cc e
has_left (x ∷ ids) off id e = grind (arith, has_left ids off id)

-- an op leaves whoever is left and was sent to before
pub still_sent : (names : Names) (s : State) (told : Told) (o : Op) (ids now : List Id) (sent : List Id) → Agrees names s → Kept s →
    SentAt told.sent s → now ≡ left_of ids (taken_off Phase.Async names o (do_op s o).answer) →
    ((id : Id) → has_id ids id ≡ true → has_id sent id ≡ true → pends s.arena.slots id ≡ true) → (id : Id) → has_id now id ≡ true →
    has_id sent id ≡ true → pends (do_op s o).state.arena.slots id ≡ true
still_sent names s told o ids now sent x kept k e still id on was =
    let parts = has_left ids (taken_off Phase.Async names o (do_op s o).answer) id (sym (ap (λ (x : List Id). has_id x id) e) ∙ on) in
    let pending = still id parts.0 was in
    sym ((op_sent names s told.sent o x kept k).are id) ∙ stays_sent names s told.sent o id x kept parts.1 pending (k.are id ∙ pending)

-- those that may be passed by, put together
pub pass_both : (off sent xs ys : List Id) → AllOffOrUnsent off sent xs → AllOffOrUnsent off sent ys → AllOffOrUnsent off sent (xs ++ ys)
pass_both off sent [] ys h k = k
pass_both off sent (x ∷ xs) ys h k = (h.0, pass_both off sent xs ys h.1 k)

pub pass_off : (off sent ids : List Id) → AllOff off ids → AllOffOrUnsent off sent ids
pass_off off sent [] h = tt
pass_off off sent (id ∷ ids) h = (rw h.0 refl, pass_off off sent ids h.1)

-- more are taken off
pub pass_more : (more off sent ids : List Id) → AllOffOrUnsent off sent ids → AllOffOrUnsent (more ++ off) sent ids
pass_more more off sent [] h = tt
pass_more more off sent (id ∷ ids) h = grind (arith, has_both, pass_more more off sent ids h.1)

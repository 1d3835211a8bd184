-- Each op and each step of the loop keeps what is kept.
use Rattle.uv_order.proofs.Names.{arith, ◌≡◌, inl, ℕ, ◌+◌, ◌==◌, List, ◌∷◌, ◌++◌, true, false, Some, None, drop, refl, ap, subst, ◌∙◌, append_assoc, append-nil, cond_both, false_from_ne_true, Id, Var, Due, HandleRecord, Slot, WatcherKind, repeating, Slots, held, freed, taken, next_free, Walk, all_yet, moved_on, Op, Task, Program, arena_size, Content, Request, queued, Run, State, fresh, handle, with_handle, with_request, live, front, watched, with_watched, stopped, started, restarted, do_op, Next, Moves, Refuses, collected, front_moved, begin_walk, has_id, kind_as, Kind, [], with_id, inr, ◌⊎◌, sym}
use Rattle.uv_records.specs.Handles as records
use Rattle.uv_model.specs.Ops as ops
use Rattle.uv_order.proofs.Lemmas.{distinct_push, has_new_middle, holds, emptied, get_set_same, is_held, put, same_handles, Fits, its_handle, Lists, lists_emptied, not_listed, Everyone, everyone_put, everyone_emptied, everyone_rest, fitted_emptied, IsSet, Times, times_rest, times_emptied, put_same, DidOp, op_did, live_held, request_turns, freed_turns, FrontRequest, Did, FrontOf, FirstOf, kept_all, fills, agree_same, free_held, Rests, Watches, Closes, IsSound, AreFree, members, Agree, Kept, on_off, open_shut, others, off_list, sound_put, free_put, free_set, not_free, put_kept, stopped_kept, closed_kept, started_kept, started_again_kept, restarted_again_kept, watcher_started_kept, io_started_kept, new_kept, not_timer, AreSome, same, has_both}

-- ---- the ops

-- a slot is taken for a request
queued_kept : (s : State) (v : Var) (task : Task) (id : Id) → next_free s.arena ≡ Some id → Kept s → Kept (ops.with_queued s v task id)
queued_kept s v task id e k =
    let c = Content.Request (queued v task) in
    let f = fills s.arena s.arena.free id c refl k.free e in
    let now = taken id c s.arena in
    agree_same now s.arena s (same_handles s.arena.slots now.slots id None (Some c) f.0 refl refl) f.1 k

-- a request's record changes
pub request_kept : (s : State) (id : Id) (r x : Request) → held s.arena.slots id ≡ Some (Content.Request r) → Kept s → Kept (with_request s id x)
request_kept s id r x e k =
    let now = (with_request s id x).arena in
    agree_same now s.arena s (same_handles s.arena.slots now.slots id _ _ (request_turns s.arena.slots id r x e) refl refl)
    (free_held s.arena.slots id (Content.Request r) _ s.arena.free e k.free) k

did_op_kept : (s : State) (o : Op) (d : ops.Done) → DidOp s o d → Kept s → Kept d.state
did_op_kept s o d (DidOp.made v q id e) k = new_kept s v q id e k
did_op_kept s o d (DidOp.queued v task id e) k = queued_kept s v task id e k
did_op_kept s o d (DidOp.cancelled v t live on) k = request_kept s t.0 t.1 _ live.holds k
did_op_kept s o d (DidOp.started v timeout repeat t e is stays) k = started_again_kept s t.0 t.1 timeout repeat (live_held s v t e) is stays k
did_op_kept s o d (DidOp.again v t e is stays begun) k = restarted_again_kept s t.0 t.1 (live_held s v t e) is stays k
did_op_kept s o d (DidOp.watching v q t e is off stays) k = watcher_started_kept s q t.0 t.1 (live_held s v t e) is off stays k
did_op_kept s o d (DidOp.io_started v t e is off stays) k = io_started_kept s t.0 t.1 (live_held s v t e) is stays k
did_op_kept s o d (DidOp.stopped v t e sync) k = stopped_kept s t.0 t.1 (live_held s v t e) sync k
did_op_kept s o d (DidOp.closed v t e stays) k = closed_kept s t.0 t.1 (live_held s v t e) stays k
did_op_kept s o d (DidOp.repeated v n t e) k = put_kept s t.0 t.1 (repeating n t.1) (live_held s v t e) refl refl refl refl k
did_op_kept s o d (DidOp.referenced o' v flag t e is) k = search (put_kept, live_held)
did_op_kept s o d (DidOp.sent_to v t e is stays) k = put_kept s t.0 t.1 (records.sent t.1) (live_held s v t e) refl refl refl refl k
did_op_kept s o d each k = k

pub op_kept : (s : State) (o : Op) → Kept s → Kept (do_op s o).state
op_kept s o k = did_op_kept s o (do_op s o) (op_did s o) k

-- ---- fronts of lists

-- each of a list is a handle, so it has a front where it has a member, and of that the same holds
pub no_front : (s : State) (P : HandleRecord → Type 0) (xs ids : List Id) → ((i : Id) → has_id (xs ++ ids) i ≡ true → Fits s.arena.slots P i) →
    front s ids ≡ None → ids ≡ []
no_front s P xs [] each e = refl
no_front s P xs (id ∷ ids) each e = let a = each id (has_new_middle xs ids id) in cc (ap (with_id id) (sym a.holds) ∙ e)

pub front_fits : (s : State) (P : HandleRecord → Type 0) (xs ids : List Id) (t : Id × HandleRecord) →
    ((i : Id) → has_id (xs ++ ids) i ≡ true → Fits s.arena.slots P i) → FrontOf s ids t → P t.1
front_fits s P xs ids t each f = its_handle s.arena.slots P t.0 t.1 f.holds
    (each t.0 (ap (λ (is : List Id). has_id (xs ++ is) t.0) f.are ∙ has_new_middle xs (drop 1 ids) t.0))

-- ---- the rows

abbrev pub StaysKept : Next → Type 0
StaysKept (Moves t seen) = Kept t
StaysKept (Refuses why) = Unit {0}

-- the front of the ready list leaves it
pub front_kept : (s : State) (id : Id) (rest : List Id) → s.ready ≡ id ∷ rest → Kept s → Kept (record s { ready = rest })
front_kept s id rest e k = grind arith

fired_kept : (s : State) (t : Id × HandleRecord) → FrontOf s s.ready t → Kept s → Kept (restarted (record s { ready = drop 1 s.ready }) t.0 t.1)
fired_kept s t f k =
    let l : Lists s.arena.slots Rests (t.0 ∷ drop 1 s.ready) = subst (Lists s.arena.slots Rests) f.are k.ready in
    let rests : Rests t.1 = front_fits s Rests [] s.ready t k.ready.each f in
    let u : State = record s { ready = drop 1 s.ready } in
    let kept : Kept u = front_kept s t.0 (drop 1 s.ready) f.are k in
    cond_both (t.1.repeat == 0) u (started u t.0 t.1 t.1.repeat t.1.repeat) Kept (λ z. kept)
    (λ z. search started_kept)

-- an active handle doesn't close
pub opened : (h : HandleRecord) → h.active ≡ true → IsSound h → h.closing ≡ false
opened h on sound = false_from_ne_true h.closing (λ shut. on_off h on (sound.shut shut))

-- the first of the order of timers is an active timer, which doesn't close
pub record IsFirst (key : Due) (h : HandleRecord) : Type 0 where
  pub set : IsSet key h
  pub stays : h.closing ≡ false

pub first_is : (s : State) (t : Id × HandleRecord) (f : FirstOf s s.timers t) → Kept s → IsFirst f.key t.1
first_is s t f k =
    let times : Times s.arena.slots s.next_start ((f.key, t.0) ∷ drop 1 s.timers) = subst (Times s.arena.slots s.next_start) f.are k.timers in
    let set : IsSet f.key t.1 = its_handle s.arena.slots (IsSet f.key) t.0 t.1 f.holds (times.each f.key t.0 (inl (refl, refl))).0 in
    record { set = set; stays = opened t.1 set.active (k.sound t.0 t.1 f.holds) }

called_due_kept : (s : State) (t : Id × HandleRecord) → FirstOf s s.timers t → Kept s → Kept (restarted (stopped s t.0 t.1) t.0 t.1)
called_due_kept s t f k = let first = first_is s t f k in restarted_again_kept s t.0 t.1 f.holds first.set.kind first.stays k

-- one more is put at the end
listed_last : {P : Id → Type 0} (ids : List Id) (x : Id) → AreSome P ids → P x → has_id ids x ≡ false → AreSome P (ids ++ x ∷ [])
listed_last {P} ids x k p off = record {
  each = λ i h. elim (has_last ids x i h) [ inl is ↦ subst P is p | inr old ↦ k.each i old ];
  distinct = distinct_push ids x k.distinct off;
} where
  has_last : (ids : List Id) (x i : Id) → has_id (ids ++ x ∷ []) i ≡ true → (x ≡ i) ⊎ (has_id ids i ≡ true)
  has_last ids x i h = grind (arith, has_both, same)

pub collected_kept : (s : State) (t : Id × HandleRecord) → FirstOf s s.timers t → Kept s → Kept (collected s t.0 t.1)
collected_kept s t f k =
    let first = first_is s t f k in
    let set = first.set in
    let x = records.stopped t.1 in
    let away = not_listed s.arena.slots Rests t.0 t.1 s.ready f.holds (λ r. on_off t.1 set.active r.inactive) k.ready.each in
    let ready : Lists (put s.arena.slots t.0 x) Rests s.ready = off_list s.arena.slots Rests t.0 t.1 x s.ready f.holds away k.ready in
    let last : Fits (put s.arena.slots t.0 x) Rests t.0 = record {
      handle = x;
      holds = put_same s.arena.slots t.0 t.1 x f.holds;
      fits = record { kind = set.kind; inactive = refl; stays = first.stays };
    } in
    let times : Times s.arena.slots s.next_start ((f.key, t.0) ∷ drop 1 s.timers) = subst (Times s.arena.slots s.next_start) f.are k.timers in
    record {
      sound = sound_put s.arena.slots t.0 t.1 x f.holds (record { shut = λ shut. refl; awake = λ q stays. cc (set.kind, q) }) k.sound;
      free = free_put s.arena.slots t.0 t.1 x s.arena.free f.holds k.free;
      timers = times_rest s.arena.slots s.next_start (f.key, t.0) (drop 1 s.timers) t.1 x f.holds refl times;
      ready = listed_last s.ready t.0 ready last away;
      watchers = λ q. others s.arena.slots Kind.Timer (kind_as q) t.0 t.1 x (members (watched s q)) f.holds set.kind set.kind (not_timer q)
          (k.watchers q);
      closing = everyone_put s.arena.slots Closes t.0 t.1 x (members s.closing) f.holds (λ shut. shut) (λ shut. shut) k.closing;
    }

-- another list of a kind, with the same members
pub with_watched_kept : (s : State) (q : WatcherKind) (w : Walk Id) → Everyone s.arena.slots (Watches (kind_as q)) (members w) → Kept s →
    Kept (with_watched s q w)
with_watched_kept s q w e k = kept_all k.sound k.free k.timers k.ready (λ r. at q r e (k.watchers r)) k.closing where
  at : (q r : WatcherKind) → Everyone s.arena.slots (Watches (kind_as q)) (members w) →
      Everyone s.arena.slots (Watches (kind_as r)) (members (watched s r)) →
      Everyone s.arena.slots (Watches (kind_as r)) (members (watched (with_watched s q w) r))
  at q r now was = grind arith

pub begin_kept : (s : State) (run : Run) (q : WatcherKind) → (watched s q).yet ≡ [] → Kept s → StaysKept (begin_walk s run q)
begin_kept s run q e k = with_watched_kept s q (all_yet (watched s q))
    (grind (arith, append-nil)) k

pub begin_closing_kept : (s : State) → s.closing.yet ≡ [] → Kept s → Kept (record s { closing = all_yet s.closing })
begin_closing_kept s e k = kept_all k.sound k.free k.timers k.ready k.watchers (grind (arith, append-nil))

pub front_moved_kept : (s : State) (q : WatcherKind) (t : Id × HandleRecord) → FrontOf s (watched s q).yet t → Kept s → Kept (front_moved s q t.0)
front_moved_kept s q t f k = with_watched_kept s q (moved_on (watched s q) t.0 (drop 1 (watched s q).yet))
    (grind (arith, append_assoc)) k

pub woken_kept : (s : State) (t : Id × HandleRecord) → FrontOf s s.watchers.async.yet t → Kept s →
    Kept (with_handle (front_moved s WatcherKind.Async t.0) t.0 (records.woken t.1))
woken_kept s t f k = search (put_kept, front_moved_kept)

-- the front of the closing handles leaves, and its slot is freed
pub gone_kept : (s : State) (t : Id × HandleRecord) (rest : List Id) (n : ℕ) (free : List ℕ) → handle s t.0 ≡ Some t.1 → s.closing.yet ≡ t.0 ∷ rest →
    AreFree (emptied s.arena.slots t.0 n) free → Kept s →
    Agree (record s.arena {
      slots = emptied s.arena.slots t.0 n;
      free = free;
    }) s.next_start s.timers s.ready s.watchers (record s.closing { yet = rest })
gone_kept s t rest n free e are f k =
    let l : Everyone s.arena.slots Closes (s.closing.list ++ t.0 ∷ rest) = subst (λ (ids : List Id). Everyone s.arena.slots Closes (s.closing.list
    ++ ids)) are k.closing in
    let shut : t.1.closing ≡ true = its_handle s.arena.slots Closes t.0 t.1 e (l.each t.0 (has_new_middle s.closing.list rest t.0)) in
    let off : t.1.active ≡ false = (k.sound t.0 t.1 e).shut shut in
    record {
      sound = λ i y h. k.sound i y ((fitted_emptied s.arena.slots (λ x. x ≡ y) t.0 t.1 n e i (search holds)).1.holds ∙ ap Some (grind arith));
      free = f;
      timers = times_emptied s.arena.slots s.next_start s.timers t.0 t.1 n e (λ key a. on_off t.1 a.active off) k.timers;
      ready = lists_emptied s.arena.slots Rests t.0 t.1 n s.ready e (λ r. open_shut t.1 shut r.stays) k.ready;
      watchers = λ q. everyone_emptied s.arena.slots (Watches (kind_as q)) t.0 t.1 n (members (watched s q)) e (λ w. on_off t.1 w.active off)
          (k.watchers q);
      closing = everyone_rest s.arena.slots Closes t.0 t.1 n s.closing.list rest e l;
    }

-- the free slots, once one more is empty
pub freed_free : (slots : List (Slot Content)) (id : Id) (c : Content) (n : ℕ) (free : List ℕ) → held slots id ≡ Some c → AreFree slots free →
    AreFree (emptied slots id n) free × AreFree (emptied slots id n) (id.slot ∷ free)
freed_free slots id c n free e k =
    let away = not_free slots id c free e k in
    let rest = free_set slots id.slot (record { generation = n; content = None }) free away k in
    let at = (holds slots id c e).at in (
      rest,
      (
        record {
          slot = record { generation = n; content = None };
          there = get_set_same slots id.slot (record {
            generation = n;
            content = None;
          }) at.slot at.there;
          empty = refl;
        },
        away,
        rest,
      ),
    )

gone_closed : (p : Program) (s : State) (t : Id × HandleRecord) → FrontOf s s.closing.yet t → Kept s →
    Agree (freed (arena_size p).last_generation t.0 s.arena) s.next_start s.timers s.ready s.watchers (record s.closing {
      yet = drop 1 s.closing.yet;
    })
gone_closed p s t f k =
    let c = Content.Handle t.1 in
    let e = is_held s.arena.slots t.0 t.1 f.holds in
    cond_both (t.0.generation == (arena_size p).last_generation) _ _
    (λ (u : Slots Content). Agree u s.next_start s.timers s.ready s.watchers (record s.closing { yet = drop 1 s.closing.yet }))
    (λ last. gone_kept s t (drop 1 s.closing.yet) t.0.generation s.arena.free f.holds f.are
    (freed_free s.arena.slots t.0 c t.0.generation s.arena.free e k.free).0 k)
    (λ more. gone_kept s t (drop 1 s.closing.yet) (t.0.generation + 1) (t.0.slot ∷ s.arena.free) f.holds f.are
    (freed_free s.arena.slots t.0 c (t.0.generation + 1) s.arena.free e k.free).1 k)

-- the slot of a request that is done is freed
gone_ended : (p : Program) (s : State) (t : Id × Request) → FrontRequest s s.done.yet t → Kept s →
    Agree (freed (arena_size p).last_generation t.0 s.arena) s.next_start s.timers s.ready s.watchers s.closing
gone_ended p s t f k =
    let last = (arena_size p).last_generation in
    let c = Content.Request t.1 in
    let free = cond_both (t.0.generation == last) _ _ (λ (u : Slots Content). AreFree u.slots u.free)
    (λ at. (freed_free s.arena.slots t.0 c t.0.generation s.arena.free f.holds k.free).0)
    (λ more. (freed_free s.arena.slots t.0 c (t.0.generation + 1) s.arena.free f.holds k.free).1) in
    agree_same (freed last t.0 s.arena) s.arena s
    (same_handles s.arena.slots (freed last t.0 s.arena).slots t.0 _ _ (freed_turns last s.arena t.0 c f.holds) refl refl) free k

pub did_kept : (p : Program) (s : State) (n : Next) → Did p s n → Kept s → StaysKept n
did_kept p s n (Did.op x at o e) k = op_kept s o k
did_kept p s n (Did.begun run q e) k = begin_kept s run q e k
did_kept p s n (Did.begun_closing run e) k = begin_closing_kept s e k
did_kept p s n (Did.collected run part t f) k = collected_kept s t f k
did_kept p s n (Did.fired run t f) k = fired_kept s t f k
did_kept p s n (Did.called_due run t f) k = called_due_kept s t f k
did_kept p s n (Did.walked run q t sync f) k = front_moved_kept s q t f k
did_kept p s n (Did.passed run t f off) k = front_moved_kept s WatcherKind.Async t f k
did_kept p s n (Did.woken run t f on) k = woken_kept s t f k
did_kept p s n (Did.closed run t f) k = gone_closed p s t f k
did_kept p s n (Did.ended run t f) k = gone_ended p s t f k
did_kept p s n (Did.finished n' t f) k = request_kept s t.0 t.1 _ f.holds k
did_kept p s n (Did.sent v) k = op_kept s (Op.Send v) k
did_kept p s n (Did.cancelled v) k = op_kept s (Op.Cancel v) k
did_kept p s n each k = assumption

pub fresh_kept : (p : Program) → Kept (fresh p)
fresh_kept p = grind arith

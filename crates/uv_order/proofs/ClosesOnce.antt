-- Each handle closes once: every op and every step of the loop appends a line that may follow those before it.
use Rattle.uv_order.proofs.Names.{◌≡◌, inl, inr, ℕ, ◌+◌, ◌==◌, ◌||◌, List, ◌∷◌, ◌++◌, true, false, drop, Option, Some, None, Ok, slice_set, refl, ap, subst, ◌∙◌, arith, cond_both, eqb-true, none-some, Id, Var, Phase, Seen, Site, Op, Program, op_at, arena_size, HandleRecord, WatcherKind, Slots, freed, Content, Request, digest_in, request_in, text_of, Finished, Run, Stage, has_id, AreDistinct, run_ids, State, fresh, handle, live, live_handle, live_request, with_handle, with_request, watched, stopped, restarted, do_op, Next, Moves, Refuses, call, calls, front_moved, CancelSays, MakesNew, MayFollow, activity, kind_as, Callback, digest_of, [], OpSays, sym}
use Rattle.uv_records.specs.Handles as records
use Rattle.uv_model.specs.Ops as ops
use Rattle.uv_model.specs.Next as step
use Rattle.uv_order.proofs.Lemmas.{live_held, cancel_both, make_both, on_list, itself, has_new_middle, distinct_back, names_turned, same_handles, is_held, put_same, Fits, request_turns, freed_turns, FrontRequest, TakesFront, RunsWork, HasEnded, its_fit, once_middle, worker, none_run, waits_open, runs_now, fewer_wait, more_run, fewer_run, Working, has_number, Watches, Closes, Rests, Kept, not_free, Did, FrontOf, FirstOf, IsStill, timed, IsGone, gone_turned, Touches, still_touches, again_touches, again_as, held_at}
use Rattle.uv_order.proofs.KeptSteps.{opened, first_is, front_fits}
use Rattle.uv_order.proofs.Started.{StartedAt, gone_freed, freed_gone, new_id, active_started, ready_started, watcher_is_started}
use Rattle.uv_order.proofs.Worked.{Worked, IsIdle, worked_ended, worked_taken, worked_finished, worked_collected, not_called, says_true}
use Rattle.uv_order.proofs.Known.{counted_ids, Known, not_closed, not_over, known_names, IsQuiet, known_told, known_quiet, known_gone}
use Rattle.uv_order.proofs.OpsOnce.{KnownAt, changed, cancel_told, send_known, op_known, touched}
use Rattle.uv_order.proofs.OpEffects.{none_bound}

-- ---- steps

-- the line of a step may follow those before it
abbrev pub Follows : Program → List Seen → Next → Type 0
Follows p past (Moves t (Some l)) = MayFollow p past l × KnownAt p (l ∷ past) t
Follows p past (Moves t None) = KnownAt p past t
Follows p past (Refuses why) = Unit {0}

-- a line that may stand anywhere
plain : (p : Program) (past : List Seen) (l : Seen) (t : State) → MayFollow p past l → IsQuiet p l × IsIdle p l → KnownAt p past t →
    Follows p past (Moves t (Some l))
plain p past l t may q k = (may, known_quiet p past l t.arena t.names q.0 q.1 k)

still_line : (p : Program) (l : Seen) → IsStill (Some l) → IsQuiet p l × IsIdle p l
still_line p l each = grind arith

still_may : (p : Program) (past : List Seen) (l : Seen) → IsStill (Some l) → MayFollow p past l
still_may p past l q = grind arith

still_known : (p : Program) (past : List Seen) (t : State) (l : Option Seen) → IsStill l → KnownAt p past t → Follows p past (Moves t l)
still_known p past t l q k = grind (arith, plain, still_may, still_line)

begins_known : (p : Program) (past : List Seen) (s : State) (run : Run) (x : Stage) (word : Phase) → KnownAt p past s →
    Follows p past (step.begins s run x word)
begins_known p past s run x word k = still_known p past (step.at s run x) (Some (Seen.Section word)) (IsStill.section word) k

-- the callback of a handle that was started, and doesn't close
call_known : (p : Program) (past : List Seen) (s : State) (run : Run) (id : Id) (v : Var) (h : HandleRecord) → handle s id ≡ Some h →
    h.closing ≡ false → (activity p past id).started ≡ true → KnownAt p past s → Follows p past (call p s run id v)
call_known p past s run id v h e stays begun k = (
  (not_closed p past s.arena s.names id h e stays k, begun),
  known_quiet p past (Seen.Call v id) s.arena _ (assumption) (assumption) (grind (arith, known_names, counted_ids)),
)

-- with its record changed
call_touched : (p : Program) (past : List Seen) (s u : State) (run : Run) (t : Id × HandleRecord) (x : HandleRecord) → Touches s t.0 t.1 x u →
    x.closing ≡ t.1.closing → t.1.closing ≡ false → (activity p past t.0).started ≡ true → KnownAt p past s →
    Follows p past (call p u run t.0 t.1.name)
call_touched p past s u run t x c o stays begun k = call_known p past u run t.0 t.1.name x
    (ap (λ (a : Slots Content). held_at a.slots t.0) c.arena ∙ put_same s.arena.slots t.0 t.1 x c.holds) (o ∙ stays) begun
    (touched p past s u t.0 t.1 x c o k)

-- the front of the ready list is called
fired_known : (p : Program) (past : List Seen) (s : State) (run : Run) (t : Id × HandleRecord) → FrontOf s s.ready t → Kept s →
    StartedAt p past s → KnownAt p past s → Follows p past (call p (restarted (record s { ready = drop 1 s.ready }) t.0 t.1) run t.0 t.1.name)
fired_known p past s run t f kept begun k =
    let u : State = record s { ready = drop 1 s.ready } in
    call_touched p past s (restarted u t.0 t.1) run t (again_as u t.1 t.1)
    (again_touches s u t.0 t.1 t.1 (still_touches s (drop 1 s.ready) t.0 t.1 f.holds)) (grind arith)
    (front_fits s Rests [] s.ready t kept.ready.each f).stays (ready_started p past s t f begun) k

-- ---- sections of watchers

begin_known : (p : Program) (past : List Seen) (s : State) (run : Run) (q : WatcherKind) → KnownAt p past s → Follows p past (step.begin_walk s run q)
begin_known p past s run q k = grind (arith, begins_known)

-- a timer that is due is called straight from the order of timers, and started again where it repeats
due_known : (p : Program) (past : List Seen) (s : State) (run : Run) (t : Id × HandleRecord) → FirstOf s s.timers t → Kept s → StartedAt p past s →
    KnownAt p past s → Follows p past (call p (restarted (stopped s t.0 t.1) t.0 t.1) run t.0 t.1.name)
due_known p past s run t f kept begun k =
    let first = first_is s t f kept in
    let u : State = stopped s t.0 t.1 in
    call_touched p past s (restarted u t.0 t.1) run t (again_as u t.1 (records.stopped t.1))
    (again_touches s u t.0 t.1 (records.stopped t.1) (assumption f.holds)) (grind arith) first.stays
    (active_started p past s t.0 t.1 f.holds first.set.active begun) k

-- an active handle of I/O is called
answered_known : (p : Program) (past : List Seen) (s : State) (run : Run) (time : ℕ) (v : Var) (t : Id × HandleRecord) → live_handle s v ≡ Ok t →
    t.1.active ≡ true → Kept s → StartedAt p past s → KnownAt p past s →
    Follows p past (calls p (record s { time = time }) run Callback.Handle v (Seen.Io v t.0))
answered_known p past s run time v t e on kept begun k =
    let held = live_held s v t e in (
      (
        not_closed p past s.arena s.names t.0 t.1 held (opened t.1 on (kept.sound t.0 t.1 held)) k,
        active_started p past s t.0 t.1 held on begun,
      ),
      known_quiet p past (Seen.Io v t.0) s.arena _ (assumption) (assumption) (grind (arith, known_names, counted_ids)),
    )

-- who is yet to run doesn't close
watched_stays : (s : State) (q : WatcherKind) (t : Id × HandleRecord) → FrontOf s (watched s q).yet t → Kept s → t.1.closing ≡ false
watched_stays s q t f kept = opened t.1 (front_fits s (Watches (kind_as q)) (watched s q).list (watched s q).yet t (kept.watchers q).each f).active
    (kept.sound t.0 t.1 f.holds)

walked_known : (p : Program) (past : List Seen) (s : State) (run : Run) (q : WatcherKind) (t : Id × HandleRecord) → FrontOf s (watched s q).yet t →
    Kept s → StartedAt p past s → KnownAt p past s → Follows p past (call p (front_moved s q t.0) run t.0 t.1.name)
walked_known p past s run q t f kept begun k = search (call_known, past, watched_stays, watcher_is_started)

woken_known : (p : Program) (past : List Seen) (s : State) (run : Run) (t : Id × HandleRecord) → FrontOf s s.watchers.async.yet t → Kept s →
    StartedAt p past s → KnownAt p past s →
    Follows p past (call p (with_handle (front_moved s WatcherKind.Async t.0) t.0 (records.woken t.1)) run t.0 t.1.name)
woken_known p past s run t f kept begun k =
    call_touched p past s (with_handle (front_moved s WatcherKind.Async t.0) t.0 (records.woken t.1)) run t (records.woken t.1) (assumption f.holds)
    refl (watched_stays s WatcherKind.Async t f kept) (watcher_is_started p past s WatcherKind.Async t f kept begun) k

-- ---- the closing section

-- its line, and its slot
freed_known : (p : Program) (past : List Seen) (s : State) (t : Id × HandleRecord) → handle s t.0 ≡ Some t.1 → Kept s → KnownAt p past s →
    Known p (Seen.Closed t.1.name t.0 ∷ past) (freed (arena_size p).last_generation t.0 s.arena) s.names s.waiting (run_ids s.running)
freed_known p past s t e kept k = cond_both (t.0.generation == (arena_size p).last_generation) _ _
    (λ (u : Slots Content). Known p (Seen.Closed t.1.name t.0 ∷ past) u s.names s.waiting (run_ids s.running))
    (λ last. known_gone p past t.1.name s.arena s.arena.free s.names t.0 t.1 t.0.generation e (omega arith)
    (inr (not_free s.arena.slots t.0 (Content.Handle t.1) s.arena.free (is_held s.arena.slots t.0 t.1 e) kept.free)) (λ m d f. f) k)
    (λ more. known_gone p past t.1.name s.arena (t.0.slot ∷ s.arena.free) s.names t.0 t.1 (t.0.generation + 1) e (omega arith) (inl (omega arith))
    (λ m d f. still m d f) k)
  where
    still : (m : ℕ) → (m ≡ t.0.slot → ⊥) → has_number s.arena.free m ≡ false → ((t.0.slot == m) || has_number s.arena.free m) ≡ false
    still m d f = grind (arith, eqb-true)

closed_known : (p : Program) (past : List Seen) (s : State) (run : Run) (t : Id × HandleRecord) → FrontOf s s.closing.yet t → Kept s →
    KnownAt p past s → Follows p past (calls p (record s {
      arena = freed (arena_size p).last_generation t.0 s.arena;
      closing = record s.closing { yet = drop 1 s.closing.yet };
    }) run Callback.Close t.1.name (Seen.Closed t.1.name t.0))
closed_known p past s run t f kept k =
    let shut = front_fits s Closes s.closing.list s.closing.yet t kept.closing.each f in
    let its : Fits s.arena.slots Closes t.0 = record { handle = t.1; holds = f.holds; fits = shut } in (
      (k.closing t.0 its, not_over p past s.arena s.names t.0 t.1 f.holds k),
      known_names p (Seen.Closed t.1.name t.0 ∷ past) (freed (arena_size p).last_generation t.0 s.arena) _ s.names
          (counted_ids s.names t.1.name _ refl) (freed_known p past s t f.holds kept k),
    )

-- ---- the section of the requests that are done

ended_known : (p : Program) (past : List Seen) (s : State) (run : Run) (t : Id × Request) → FrontRequest s s.done.yet t → Kept s → Working s →
    KnownAt p past s → Follows p past (calls p (record s {
      arena = freed (arena_size p).last_generation t.0 s.arena;
      done = record s.done { yet = drop 1 s.done.yet };
    }) run Callback.After t.1.name (Seen.After (digest_in t.1.outcome) t.1.name t.0))
ended_known p past s run t f kept work k =
    let last = (arena_size p).last_generation in
    let turns = freed_turns last s.arena t.0 (Content.Request t.1) f.holds in
    let gone : (i : Id) → IsGone s.arena.slots s.arena.free i → IsGone (freed last t.0 s.arena).slots (freed last t.0 s.arena).free i =
    λ i g. gone_freed s last t.0 (Content.Request t.1) f.holds kept i g in
    let ended = its_fit s.arena.slots HasEnded (s.done.list ++ s.done.yet) t.0 t.1 (ap request_in f.holds)
    (ap (λ (ids : List Id). has_id (s.done.list ++ ids) t.0) f.are ∙ has_new_middle s.done.list (drop 1 s.done.yet) t.0) work.ended in (
      record {
        task = t.1.task;
        queued = k.worked.queued t.0 t.1 (ap request_in f.holds);
        first = not_called p past s.arena s.waiting (run_ids s.running) t.0 t.1 f.holds k.worked;
        says = says_true p past t.0 t.1.task t.1.outcome ended (k.worked.ended t.0 t.1 (ap request_in f.holds));
      },
      known_names p (Seen.After (digest_in t.1.outcome) t.1.name t.0 ∷ past) (freed last t.0 s.arena) _ s.names
          (counted_ids s.names t.1.name _ refl)
          (known_told p past (Seen.After (digest_in t.1.outcome) t.1.name t.0) s.arena (freed last t.0 s.arena) s.names
          (assumption) (same_handles s.arena.slots _ t.0 _ _ turns refl refl) (names_turned s.arena.slots _ t.0 _ _ turns (λ u g. cc g)) gone
          (search (worked_collected, freed_gone)) k),
    )

-- ---- any step

cancel_says : (p : Program) (past : List Seen) (s : State) (v : Var) → KnownAt p past s → CancelSays p past v (ops.cancel s (live_request s v)).answer
cancel_says p past s v k = cancel_both s v (λ (d : ops.Done). CancelSays p past v d.answer) (grind arith)
    (λ t live on. record {
      names = k.binding v t.0 live.bound;
      task = t.1.task;
      queued = k.worked.queued t.0 t.1 (ap request_in live.holds);
      waits = k.worked.waits t.0 (on_list s.waiting t.0 on);
      once = k.worked.uncancelled t.0 (on_list s.waiting t.0 on);
      first = not_called p past s.arena s.waiting (run_ids s.running) t.0 t.1 live.holds k.worked;
    })

-- what is made has a new id
make_says : (p : Program) (past : List Seen) (s : State) (o : Option (Id × Content)) (made : Id → State) → Kept s → StartedAt p past s →
    MakesNew p past (ops.make s o made).answer
make_says p past s o made kept begun = make_both s o made (λ (d : ops.Done). MakesNew p past d.answer) (λ c r. tt)
    (λ id e. new_id p past s id e kept begun)

op_says : (p : Program) (past : List Seen) (s : State) (o : Op) → Kept s → StartedAt p past s → KnownAt p past s →
    OpSays p past (Some o) (do_op s o).answer
op_says p past s (Op.Init v q) kept begun k = make_says p past s (live s v) (ops.with_new s v q) kept begun
op_says p past s (Op.Queue v task) kept begun k = make_says p past s (live s v) (ops.with_queued s v task) kept begun
op_says p past s (Op.Cancel v) kept begun k = cancel_says p past s v k
op_says p past s each kept begun k = tt

-- the line of an op that is done
op_line : (p : Program) (past : List Seen) (s : State) (place : Site) (o : Op) → op_at p place ≡ Some o → Kept s → StartedAt p past s →
    KnownAt p past s → MayFollow p past (Seen.Op place (do_op s o).answer)
op_line p past s place o e kept begun k = subst (λ (x : Option Op). OpSays p past x (do_op s o).answer) (sym e) (op_says p past s o kept begun k)

taken_known : (p : Program) (past : List Seen) (s : State) (n : ℕ) (t : Id × Request) → TakesFront s n t → Working s → KnownAt p past s →
    Follows p past (step.take s n (Ok t))
taken_known p past s n t f work k =
    let waits : has_id s.waiting t.0 ≡ true = ap (λ (ids : List Id). has_id ids t.0) f.front.are ∙ rw (itself t.0 t.0 refl) refl in
    let apart : AreDistinct ((t.0 ∷ drop 1 s.waiting) ++ run_ids s.running) =
    subst (λ (ids : List Id). AreDistinct (ids ++ run_ids s.running)) f.front.are work.open_ones.distinct in
    let r = worker s.running n None f.idle in (
      (
        k.worked.waits t.0 waits,
        not_called p past s.arena s.waiting (run_ids s.running) t.0 t.1 f.front.holds k.worked,
        k.worked.uncancelled t.0 waits,
      ),
      known_told p past (Seen.Take n t.1.name t.0) s.arena s.arena s.names (assumption) (λ i. refl) (λ i u g. g) (λ i g. g)
          (worked_taken p past s.arena s.waiting (run_ids s.running) (drop 1 s.waiting) (run_ids (slice_set s.running n (Some t.0))) n t.1.name t.0
          t.1 (ap request_in f.front.holds) (waits_open s.arena.slots s.waiting s.running s.done t.0 t.1 f.front.holds waits work) waits
          (λ i e. fewer_wait s.waiting (run_ids s.running) (drop 1 s.waiting) t.0 i f.front.are apart.0 e)
          (λ i e. more_run (run_ids s.running) _ r.front r.behind t.0 i r.were (r.are (Some t.0)) e) k.worked) k,
    )

finished_known : (p : Program) (past : List Seen) (s : State) (n : ℕ) (t : Id × Request) → RunsWork s n t → Working s → KnownAt p past s →
    Follows p past (step.finish s n (Ok t))
finished_known p past s n t f work k =
    let x : Request = record t.1 { outcome = Finished (digest_of t.1.task.rounds (text_of t.1.task)) } in
    let runs : List Id = run_ids (slice_set s.running n None) in
    let g = worker s.running n (Some t.0) f.busy in
    let on = runs_now s.running n t.0 f.busy in
    let was = k.worked.runs_now t.0 on in
    let apart : has_id (g.front ++ g.behind) t.0 ≡ false =
    once_middle g.front g.behind t.0 (subst AreDistinct g.were (distinct_back s.waiting (run_ids s.running) work.open_ones.distinct)) in
    let told : Worked p (Seen.Finish n t.1.name t.0 ∷ past) s.arena s.waiting runs =
    worked_finished p past s.arena s.waiting (run_ids s.running) runs n t.1.name t.0 on
    (λ i e. fewer_run (run_ids s.running) runs g.front g.behind t.0 i g.were (g.are None) apart e) k.worked in
    let gone : (i : Id) → IsGone s.arena.slots s.arena.free i → IsGone (with_request s t.0 x).arena.slots (with_request s t.0 x).arena.free i =
    λ i h. gone_turned s.arena.slots s.arena.free t.0 (Content.Request t.1) (Some (Content.Request x)) i f.holds h in
    let turns = request_turns s.arena.slots t.0 t.1 x f.holds in (was, search (known_told, same_handles, names_turned, worked_ended, itself))

-- a cancel from outside
cancel_outside : (p : Program) (past : List Seen) (s : State) (v : Var) → KnownAt p past s →
    KnownAt p (Seen.Cancel v (ops.cancel s (live_request s v)).answer ∷ past) (ops.cancel s (live_request s v)).state
cancel_outside p past s v k = cancel_both s v (λ (d : ops.Done). KnownAt p (Seen.Cancel v d.answer ∷ past) d.state)
    (λ c no_success. assumption)
    (λ t live on. search cancel_told)

pub did_known : (p : Program) (past : List Seen) (s : State) (n : Next) → Did p s n → Kept s → Working s → StartedAt p past s → KnownAt p past s →
    Follows p past n
did_known p past s n (Did.still x time clock stop idled l q none) kept work begun k = still_known p past (timed s x time clock stop idled) l q k
did_known p past s n (Did.op x at o e) kept work begun k =
    (op_line p past s at o e kept begun k, op_known p past s o kept (λ id f. new_id p past s id f kept begun) k at e)
did_known p past s n (Did.collected run part t f) kept work begun k = changed p past s t (records.stopped t.1) f.holds refl refl k
did_known p past s n (Did.fired run t f) kept work begun k = fired_known p past s run t f kept begun k
did_known p past s n (Did.called_due run t f) kept work begun k = due_known p past s run t f kept begun k
did_known p past s n (Did.answered run time v t e is on) kept work begun k = answered_known p past s run time v t e on kept begun k
did_known p past s n (Did.walked run q t sync f) kept work begun k = walked_known p past s run q t f kept begun k
did_known p past s n (Did.woken run t f on) kept work begun k = woken_known p past s run t f kept begun k
did_known p past s n (Did.closed run t f) kept work begun k = closed_known p past s run t f kept k
did_known p past s n (Did.ended run t f) kept work begun k = ended_known p past s run t f kept work k
did_known p past s n (Did.taken n' t f) kept work begun k = taken_known p past s n' t f work k
did_known p past s n (Did.finished n' t f) kept work begun k = finished_known p past s n' t f work k
did_known p past s n (Did.cancelled v) kept work begun k = (cancel_says p past s v k, cancel_outside p past s v k)
did_known p past s n each kept work begun k = search (begin_known, begins_known, plain, send_known)

-- ---- all steps

pub known_fresh : (p : Program) → KnownAt p [] (fresh p)
known_fresh p = grind (arith, none_bound, none-some, none_run)

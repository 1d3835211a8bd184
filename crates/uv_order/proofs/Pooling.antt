-- Each line is the event of the thread pool that it says, by the rules of the pool.
use Rattle.uv_order.proofs.Names.{arith, ◌≡◌, ℕ, ◌||◌, List, ◌∷◌, ◌++◌, map, Bool, true, false, Option, Some, None, Ok, drop, slice_set, refl, ap, sym, subst, ◌∙◌, append_assoc, append-nil, map-append, or_comm, list_any, both_ways, or_right, false_from_ne_true, same_Some, none-some, Id, Var, Code, Answer, Site, Slot, held, freed, next_free, Op, Task, Program, arena_size, op_at, text_of, Pool, runs, is_done, has, without, collected_from, after_event, after_events, is_open, Finished, Cancelled, Content, Request, request_in, same_id, without_id, State, request, live_request, do_op, Next, Moves, Refuses, has_id, AreDistinct, run_ids, op_events, outside_events, line_events, done_as, pool_of, Seen, PoolEvent, digest_of, [], waits}
use Rattle.uv_work.specs.Pool.{Done as Ended}
use Rattle.uv_model.specs.Ops as ops
use Rattle.uv_model.specs.Next as step
use Rattle.uv_order.proofs.Lemmas.{has_both, on_list, same, other, itself, without_absent, distinct_front, Turns, cancel_both, make_both, Kept, fills, request_turns, freed_turns, FrontRequest, TakesFront, RunsWork, asked_at, AllAsk, IsOpen, HasEnded, once_middle, runs_now, waits_open, runs_open, SameWork, IsOfHandles, IsOfLoop, op_same, KeepsWork, did_same, Working, Did, IsStill}

-- ---- pools

-- the pool of these parts
abbrev the_pool : List Id → List (Option Id) → List Ended → Pool
the_pool waiting running done = record { waiting = waiting; running = running; done = done }

equal_pools : (w x : List Id) (r y : List (Option Id)) (d z : List Ended) → w ≡ x → r ≡ y → d ≡ z → the_pool w r d ≡ the_pool x y z
equal_pools w x r y d z a b c = λ l. record { waiting = a l; running = b l; done = c l }

-- those that are done are as before, where their requests are
done_same : (s t : State) (ids : List Id) → ((i : Id) → has_id ids i ≡ true → request t i ≡ request s i) → map (done_as t) ids ≡ map (done_as s) ids
done_same s t [] f = refl
done_same s t (id ∷ ids) f = grind (arith, or_right, itself, done_same s t ids)

-- no request changes, and no list of requests
pool_same : (s t : State) → SameWork s t → pool_of t ≡ pool_of s
pool_same s t q = grind arith

-- ---- who is in a pool

waits_has : (ids : List Id) (id : Id) → waits ids id ≡ has_id ids id
waits_has [] id = refl
waits_has (x ∷ ids) id = ap (λ (b : Bool). same_id x id || b) (waits_has ids id)

runs_has : (running : List (Option Id)) (id : Id) → runs running id ≡ has_id (run_ids running) id
runs_has [] id = refl
runs_has (None ∷ running) id = runs_has running id
runs_has (Some x ∷ running) id = ap (λ (b : Bool). same_id x id || b) (runs_has running id)

done_has : (s : State) (ids : List Id) (id : Id) → is_done (map (done_as s) ids) id ≡ has_id ids id
done_has s [] id = refl
done_has s (x ∷ ids) id = ap (λ (b : Bool). same_id x id || b) (done_has s ids id)

-- an id that stands for no request is on no list of them
off_all : (slots : List (Slot Content)) (P : Request → Type 0) (ids : List Id) (id : Id) → asked_at slots id ≡ None → AllAsk slots P ids →
    has_id ids id ≡ false
off_all slots P ids id e k = false_from_ne_true (has_id ids id) (λ h. let a = k.each id h in none-some a.request (sym e ∙ a.holds))

-- it isn't in the pool
not_in : (s : State) (id : Id) → asked_at s.arena.slots id ≡ None → Working s → has (pool_of s) id ≡ false
not_in s id e k =
    let opened : (has_id s.waiting id || has_id (run_ids s.running) id) ≡ false =
    sym (has_both s.waiting (run_ids s.running) id) ∙ off_all s.arena.slots IsOpen (s.waiting ++ run_ids s.running) id e k.open_ones in
    let ended : has_id (s.done.yet ++ s.done.list) id ≡ false =
    has_both s.done.yet s.done.list id ∙ or_comm (has_id s.done.yet id) (has_id s.done.list id) ∙ sym (has_both s.done.list s.done.yet id)
    ∙ off_all s.arena.slots HasEnded (s.done.list ++ s.done.yet) id e k.ended in
    rw (waits_has s.waiting id, runs_has s.running id, done_has s (s.done.yet ++ s.done.list) id, ended)
    (none_of (has_id s.waiting id) (has_id (run_ids s.running) id) opened)
  where
    none_of : (a b : Bool) → (a || b) ≡ false → (a || (b || false)) ≡ false
    none_of a b f = grind arith

-- ---- the events

-- a step is the events of its line
abbrev pub Pools : Program → State → Next → Type 0
Pools p s (Moves t (Some l)) = after_events (Some (pool_of s)) (line_events p l) ≡ Some (pool_of t)
Pools p s (Moves t None) = pool_of t ≡ pool_of s
Pools p s (Refuses why) = Unit {0}

-- those that are done aren't this one, which isn't done
apart_done : (s t : State) (id : Id) (was is : Option Content) → Turns s.arena.slots t.arena.slots id was is →
    ((r : Request) → request_in was ≡ Some r → is_open r.outcome ≡ true) → Working s →
    map (done_as t) (s.done.yet ++ s.done.list) ≡ map (done_as s) (s.done.yet ++ s.done.list)
apart_done s t id was is turns opened k = done_same s t (s.done.yet ++ s.done.list) (λ i h. still i h (same_id i id) refl) where
  turned_round : (i : Id) → has_id (s.done.yet ++ s.done.list) i ≡ true → has_id (s.done.list ++ s.done.yet) i ≡ true
  turned_round i h = grind (arith, has_both, or_comm)

  still : (i : Id) → has_id (s.done.yet ++ s.done.list) i ≡ true → (b : Bool) → same_id i id ≡ b → request t i ≡ request s i
  still i h false d = ap request_in (turns.others i (other i id d))
  still i h true d =
      let a = k.ended.each i (turned_round i h) in
      let its : request_in was ≡ Some a.request = sym (ap request_in turns.before) ∙ ap (asked_at s.arena.slots) (sym (same i id d)) ∙ a.holds in
      absurd (both_ways (is_open a.request.outcome) a.fits (opened a.request its))

-- a request is queued
queued_pool : (s : State) (v : Var) (task : Task) (id : Id) → next_free s.arena ≡ Some id → Kept s → Working s →
    after_event (pool_of s) (PoolEvent.Queue id) ≡ Some (pool_of (ops.with_queued s v task id))
queued_pool s v task id e kept k = grind (arith, fills, not_in, apart_done)

-- a list without its first one of an id, where none stands twice
without_first : (ids : List Id) (id : Id) → AreDistinct ids → without ids id ≡ without_id ids id
without_first [] id d = refl
without_first (x ∷ ids) id d = grind (arith, same, without_absent, without_first ids id d.1)

-- a request that waits is cancelled
cancelled_pool : (s : State) (t : Id × Request) → held s.arena.slots t.0 ≡ Some (Content.Request t.1) → list_any (same_id t.0) s.waiting ≡ true →
    Working s → after_event (pool_of s) (PoolEvent.Cancel t.0) ≡ Some (pool_of (ops.cancelled s t.0 t.1))
cancelled_pool s t e on k =
    let x : Request = record t.1 { outcome = Cancelled } in
    let u = ops.cancelled s t.0 t.1 in
    let turns = request_turns s.arena.slots t.0 t.1 x e in
    let here : has_id s.waiting t.0 ≡ true = on_list s.waiting t.0 on in
    let opened = waits_open s.arena.slots s.waiting s.running s.done t.0 t.1 e here k in
    let apart = apart_done s u t.0 (Some (Content.Request t.1)) (Some (Content.Request x)) turns
    (λ r f. ap (λ (y : Request). is_open y.outcome) (sym (same_Some _ _ f)) ∙ opened) k in
    let distinct = distinct_front s.waiting (run_ids s.running) k.open_ones.distinct in
    grind (arith, waits_has, equal_pools, without_first, append_assoc, map-append, turns, apart)

-- a worker finishes the one that it runs
finished_pool : (s : State) (n : ℕ) (t : Id × Request) → RunsWork s n t → Working s → after_event (pool_of s) (PoolEvent.Finish n t.0)
    ≡ Some (pool_of (ops.ended (record s { running = slice_set s.running n None }) t.0 t.1 (Finished (digest_of t.1.task.rounds (text_of t.1.task)))))
finished_pool s n t f k =
    let x : Request = record t.1 { outcome = Finished (digest_of t.1.task.rounds (text_of t.1.task)) } in
    let u = ops.ended (record s { running = slice_set s.running n None }) t.0 t.1 (Finished (digest_of t.1.task.rounds (text_of t.1.task))) in
    let turns = request_turns s.arena.slots t.0 t.1 x f.holds in
    let opened = runs_open s.arena.slots s.waiting s.running s.done t.0 t.1 f.holds (runs_now s.running n t.0 f.busy) k in
    let apart = apart_done s u t.0 (Some (Content.Request t.1)) (Some (Content.Request x)) turns
    (λ r h. ap (λ (y : Request). is_open y.outcome) (sym (same_Some _ _ h)) ∙ opened) k in
    grind (arith, itself, equal_pools, append_assoc, map-append, turns, apart)

-- the first of those that are done calls back
collected_pool : (s : State) (last : ℕ) (t : Id × Request) → FrontRequest s s.done.yet t → Working s → after_event (pool_of s) (PoolEvent.Collect t.0)
    ≡ Some (pool_of (record s { arena = freed last t.0 s.arena; done = record s.done { yet = drop 1 s.done.yet } }))
collected_pool s last t f k =
    let u = record s { arena = freed last t.0 s.arena; done = record s.done { yet = drop 1 s.done.yet } } in
    let turns = freed_turns last s.arena t.0 (Content.Request t.1) f.holds in
    let rest = drop 1 s.done.yet ++ s.done.list in
    let apart : has_id rest t.0 ≡ false = distinct_round (drop 1 s.done.yet) s.done.list t.0
    (subst (λ (ids : List Id). AreDistinct (s.done.list ++ ids)) f.are k.ended.distinct) in
    let same_rest : map (done_as u) rest ≡ map (done_as s) rest =
    done_same s u rest (λ i h. ap request_in (turns.others i (λ is. both_ways (has_id rest t.0) apart (ap (has_id rest) (sym is) ∙ h)))) in
    let front : map (done_as s) (s.done.yet ++ s.done.list) ≡ done_as s t.0 ∷ map (done_as s) rest =
    ap (λ (ids : List Id). map (done_as s) (ids ++ s.done.list)) f.are in
    ap (collected_from (pool_of s) t.0) front ∙ rw (itself t.0 t.0 refl) (ap Some (equal_pools _ _ _ _ _ _ refl refl (sym same_rest)))
  where
    distinct_round : (xs ys : List Id) (x : Id) → AreDistinct (ys ++ x ∷ xs) → has_id (xs ++ ys) x ≡ false
    distinct_round xs ys x d = grind (arith, has_both, once_middle ys xs x d)

-- ---- the ops

-- an op is the events of its answer
abbrev PoolsBy : State → Op → ops.Done → Type 0
PoolsBy s o d = after_events (Some (pool_of s)) (op_events o d.answer) ≡ Some (pool_of d.state)

-- one that isn't one of requests is none
quiet_op : (s : State) (o : Op) → IsOfHandles o → ((a : Answer) → op_events o a ≡ []) → Kept s → PoolsBy s o (do_op s o)
quiet_op s o h none kept = grind (arith, pool_same, op_same)

-- a refused one is none
refused_op : (s : State) (o : Op) (c : Code) → op_events o (Answer.Code c) ≡ [] → PoolsBy s o (ops.refuses s c)
refused_op s o c none = ap (after_events (Some (pool_of s))) none

cancel_pools : (s : State) (v : Var) → Working s → PoolsBy s (Op.Cancel v) (ops.cancel s (live_request s v))
cancel_pools s v k = cancel_both s v (PoolsBy s (Op.Cancel v)) (λ c no_success. refused_op s (Op.Cancel v) c refl)
    (λ t live on. cancelled_pool s t live.holds on k)

-- the line of an op
op_line : (p : Program) (s : State) (place : Site) (o : Op) → op_at p place ≡ Some o → Kept s → Working s →
    after_events (Some (pool_of s)) (line_events p (Seen.Op place (do_op s o).answer)) ≡ Some (pool_of (do_op s o).state)
op_line p s place o e kept k = grind (arith, make_both, refused_op, queued_pool, cancel_pools, quiet_op)

-- ---- the steps

-- the line tells of no event
abbrev IsQuiet : Program → Next → Type 0
IsQuiet p (Moves t (Some l)) = line_events p l ≡ []
IsQuiet p (Moves t None) = Unit {0}
IsQuiet p (Refuses why) = Unit {0}

quiet_step : (p : Program) (s : State) (n : Next) → KeepsWork s n → IsQuiet p n → Pools p s n
quiet_step p s n q none = grind (arith, pool_same)

did_quiet : (p : Program) (s : State) (n : Next) (d : Did p s n) → IsOfLoop d → IsQuiet p n
did_quiet p s n (Did.still x time clock stop idled l IsStill.unseen none) h = tt
did_quiet p s n each h = grind arith

outside_pools : (p : Program) (s : State) (v : Var) → Working s →
    after_events (Some (pool_of s)) (outside_events (ops.cancel s (live_request s v)).answer) ≡ Some (pool_of (ops.cancel s (live_request s v)).state)
outside_pools p s v k = cancel_both s v (λ (d : ops.Done). after_events (Some (pool_of s)) (outside_events d.answer) ≡ Some (pool_of d.state))
    (λ c no_success. refl) (λ t live on. cancelled_pool s t live.holds on k)

taken_pools : (p : Program) (s : State) (n : ℕ) (t : Id × Request) → TakesFront s n t → Pools p s (step.take s n (Ok t))
taken_pools p s n t f = grind arith

pub did_pools : (p : Program) (s : State) (n : Next) → Did p s n → Kept s → Working s → Pools p s n
did_pools p s n (Did.op x at o e) kept k = op_line p s at o e kept k
did_pools p s n (Did.begun_done run time e) kept k = ap Some (sym (grind (arith, equal_pools, append-nil)))
did_pools p s n (Did.ended run t f) kept k = collected_pool s (arena_size p).last_generation t f k
did_pools p s n (Did.taken n' t f) kept k = taken_pools p s n' t f
did_pools p s n (Did.finished n' t f) kept k = finished_pool s n' t f k
did_pools p s n (Did.cancelled v) kept k = outside_pools p s v k
did_pools p s n each kept k = quiet_step p s n (did_same p s n each tt kept) (did_quiet p s n each tt)

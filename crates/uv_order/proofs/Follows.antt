-- A whole step goes on from where the state stands, and so does every list of them.
use Rattle.uv_order.proofs.Names.{arith, ◌≡◌, ℕ, ◌+◌, List, ◌∷◌, ◌++◌, Bool, true, false, Option, Some, None, Result, Ok, Err, drop, length, slice_get, slice_set, nat_le, nat_lt, refl, ap, sym, subst, ◌∙◌, if◌then◌else◌, cond_both, Id, Var, Event, Loop, Take, Finish, Cancel, Send, Io, Tick, Answer, Phase, Site, Op, MainOp, CallbackLine, Program, lines_in, main_op, order_of, from_heap, HandleRecord, held, Why, Request, Body, Run, Stage, TimersOf, AtEntry, Collecting, Firing, Place, State, fresh, handle, with_handle, with_request, refreshed, do_op, may_leave, next_work, work_of, Names, Told, nothing_told, Section, In, word_of, Standing, Answering, Begun, Within, Polling, Position, Between, Running, sites_from, taken_off, BeginsAt, Code, Seen, Content, WatcherKind, next, option_map, [], has_passed, has_some, has_pending, ◌||◌, ◌&&◌, BeginsIn}
use Rattle.uv_records.specs.Handles as records
use Rattle.uv_model.specs.Ops as ops
use Rattle.uv_model.specs.Next as step
use Rattle.uv_order.specs.Documented as doc
use Rattle.uv_order.specs.Documented.{Walk}
use Rattle.uv_order.proofs.Lemmas.{left_of, none_off, more_off, name_in, SameHandles, same_handles, live_held, send_both, cancel_both, takes_front, runs_work, request_turns, IsBody, is_body, op_effect, Counted, counted_kept, counted_sent, counted_fresh}
use Rattle.uv_order.proofs.Woken.{pending_is}
use Rattle.uv_order.proofs.Sends.{pends_in, still_sent, pass_more, pends_more}
use Rattle.uv_order.proofs.Standing.{left_all, are_ended, StandsIn, waiting, rest_in, AsyncIn, rest, Leaves, NobodyLeft, due_now, StandsAt, Stands, FollowsLine, follows_to, Follows, empty_over, opens_done, opens_unwoken, async_moved, begun, pending, walking, polls, polled, done, unwoken, closing, collects, fires, calls_due, between, running, Has, sites_at}
use Rattle.uv_order.proofs.TimersFollow.{turn_follows, fire_follows, collect_follows, call_due_follows}
use Rattle.uv_order.proofs.IoFollows.{io_follows}
use Rattle.uv_order.proofs.WatchersFollow.{begin_follows, unwoken_follows, walk_follows, async_follows, done_follows, closing_follows}

-- ---- words

-- someone is pending, so someone was sent to
more_or : (a b x y : Bool) → (x ≡ true → y ≡ true) → (a || (b || x)) ≡ true → (a || (b || y)) ≡ true
more_or a b x y f h = grind arith

-- what an op leaves of a list, where that was left
pub more_left : (ids off now was taken : List Id) → now ≡ left_of was taken → was ≡ left_of ids off → now ≡ left_of ids (taken ++ off)
more_left ids off now was taken e h = e ∙ ap (λ (is : List Id). left_of is taken) h ∙ more_off ids off taken

-- nobody, where nobody was
pub still_none : (now was taken : List Id) → now ≡ left_of was taken → was ≡ [] → now ≡ []
still_none now was taken e h = e ∙ ap (λ (is : List Id). left_of is taken) h

-- who is left of the list of one section after an op, in another one or the same
left_in : (x word : Phase) (names : Names) (o : Op) (a : Answer) (w : Walk) (more : List Site) (now was : List Id) →
    now ≡ left_of was (taken_off x names o a) → was ≡ rest_in x word w →
    now ≡ rest_in x word (record w { off = taken_off word names o a ++ w.off; body = more })
left_in Phase.Idle Phase.Idle names o a w more now was e h = more_left w.ahead w.off now was _ e h
left_in Phase.Prepare Phase.Prepare names o a w more now was e h = more_left w.ahead w.off now was _ e h
left_in Phase.Check Phase.Check names o a w more now was e h = more_left w.ahead w.off now was _ e h
left_in Phase.Timers Phase.Timers names o a w more now was e h = more_left w.ahead w.off now was _ e h
left_in Phase.Closing Phase.Closing names o a w more now was e h = more_left w.ahead w.off now was _ e h
left_in Phase.Done Phase.Done names o a w more now was e h = more_left w.ahead w.off now was _ e h
left_in x word names o a w more now was e h = still_none now was _ e h

-- no op takes a handle off the closing list
pub closing_takes_none : (names : Names) (o : Op) (a : Answer) → taken_off Phase.Closing names o a ≡ []
closing_takes_none names o a = grind arith

-- nor a request off the list of those that are done
pub done_takes_none : (names : Names) (o : Op) (a : Answer) → taken_off Phase.Done names o a ≡ []
done_takes_none names o a = grind arith

-- the walk with the first op of the body done, by what that answered
abbrev pub done_one : Names → Op → Answer → Section → Walk → List Site → Walk
done_one names o a part w more = record w { off = taken_off (word_of part) names o a ++ w.off; body = more }

-- where a callback is under way no timers are collected
ready_only : (p : Program) (x : Stage) (part : Section) (w : Walk) (ready due : List Id) → StandsIn p x (Within part w) → (w.body ≡ [] → ⊥) →
    waiting x (from_heap p) ready due ≡ ready
ready_only p x part w ready due f d = grind arith

-- behind a callback of I/O that left the poll nobody is left of any list
is_polled : (p : Program) (x : Stage) (woken : Bool) (sites : List Site) → StandsIn p x (Answering woken sites) → x ≡ Stage.Polled woken
is_polled p x woken sites f = grind arith

none_waits : (p : Program) (x : Stage) (woken : Bool) (sites : List Site) (s : State) → StandsIn p x (Answering woken sites) →
    Leaves (rest (waiting x (from_heap p) s.ready (due_now s)) s) (Answering woken sites) → NobodyLeft (rest s.ready s)
none_waits p x woken sites s polled l = assumption l

-- and its section is the same one with its next op done
still_in : (p : Program) (x : Stage) (part : Section) (w : Walk) (off : List Id) (more : List Site) → StandsIn p x (Within part w) →
    (w.body ≡ [] → ⊥) → StandsIn p x (Within part (record w { off = off; body = more }))
still_in p x part w off more (pending none) d = pending none
still_in p x part w off more walking d = walking
still_in p x part w off more (done woken) d = done woken
still_in p x part w off more (unwoken asleep none) d = unwoken asleep none
still_in p x part w off more closing d = closing
still_in p x part w off more (collects heap b) d = absurd (d b)
still_in p x part w off more (fires heap) d = fires heap
still_in p x part w off more (calls_due heap none) d = calls_due heap none

-- only the clock changes
ticked : (p : Program) (s : State) (ms : ℕ) (x : Place) (at : Position) → StandsAt p s x at → StandsAt p (record s { clock = s.clock + ms }) x at
ticked p s ms (Place.Main i) at (between e) = between e
ticked p s ms (Place.Running run) at (running b f l) = running b f l

-- the lists of requests are no places
works_on : (p : Program) (s : State) (ids : List Id) (workers : List (Option Id)) (x : Place) (at : Position) → StandsAt p s x at →
    StandsAt p (record s { waiting = ids; running = workers }) x at
works_on p s ids workers (Place.Main i) at (between e) = between e
works_on p s ids workers (Place.Running run) at (running b f l) = running b f l

-- a handle is sent to
sent_on : (p : Program) (s : State) (t : Id × HandleRecord) → handle s t.0 ≡ Some t.1 → (x : Place) (at : Position) → StandsAt p s x at →
    StandsAt p (with_handle s t.0 (records.sent t.1)) x at
sent_on p s t e (Place.Main i) at (between l) = between (assumption l)
sent_on p s t e (Place.Running run) at (running {at = y} b f l) = running b f (search (left_all, async_moved, pends_more))

-- a request ends
ends_on : (p : Program) (s : State) (t : Id × Request) (x : Request) (ids : List Id) (workers : List (Option Id)) →
    held s.arena.slots t.0 ≡ Some (Content.Request t.1) → (y : Place) (at : Position) → StandsAt p s y at →
    StandsAt p (record (with_request s t.0 x) { waiting = ids; running = workers; done = record s.done { list = s.done.list ++ t.0 ∷ [] } }) y at
ends_on p s t x ids workers e (Place.Main i) at (between l) = between (assumption l)
ends_on p s t x ids workers e (Place.Running run) at (running {at = y} b f l) = running b f (assumption
    (async_moved s.arena.slots _ (λ i on. ap pends_in (same i) ∙ on) y s.watchers.async.yet l.async, l)) where
      same : SameHandles (with_request s t.0 x).arena.slots s.arena.slots
      same = same_handles s.arena.slots _ t.0 _ _ (request_turns s.arena.slots t.0 t.1 x e) refl refl

-- ---- the steps

module _ (p : Program) (told : Told) (names : Names) (s : State) (h : Has p told names s) where
  -- the poll is left where it may be
  pub left_poll : (run : Run) (deadline : Option ℕ) → NobodyLeft (rest s.ready s) →
      Follows p told names (Running run.mode run.line (Polling deadline)) s (step.poll s run deadline)
  left_poll run deadline e = cond_both (may_leave s deadline) _ _ (Follows p told names (Running run.mode run.line (Polling deadline)) s)
      (λ may. follows_to (doc.section (In Phase.Done) (more_or (has_passed s.clock deadline) (has_some s.done.list) (has_pending s)
      (has_some told.sent && has_pending s) (λ on. rw (sym (pending_is told s h.sent) ∙ on, on) refl) may)
      (grind arith) refl (opens_done p told _ (are_ended s e.done h.working)) refl)
      (running refl (done refl) (assumption (sym (none_off s.done.list), e))) h.counted)
      (λ may. tt)

  -- where a callback of I/O left it, done follows once its ops are done, with a list where the poll was woken
  left_polled : (run : Run) (woken : Bool) (sites : List Site) → sites ≡ [] → NobodyLeft (rest s.ready s) →
      Follows p told names (Running run.mode run.line (Answering woken sites)) s (step.leave_polled s run woken)
  left_polled run true sites b e =
      follows_to (doc.section (In Phase.Done) b (grind arith) refl (opens_done p told _ (are_ended s e.done h.working)) refl)
      (running refl (done refl) (assumption (sym (none_off s.done.list), e))) h.counted
  left_polled run false sites b e = follows_to (doc.section (In Phase.Done) b (grind arith) refl (opens_unwoken p told _) refl)
      (running refl (unwoken refl refl) (assumption e)) h.counted

  -- the timers of a section are collected, or called straight from their heap
  timers_follow : (run : Run) (part : TimersOf) (at : Standing) → sites_at at ≡ [] → StandsIn p (Stage.Timers part Collecting) at →
      Leaves (rest (waiting (Stage.Timers part Collecting) (from_heap p) s.ready (due_now s)) s) at →
      Follows p told names (Running run.mode run.line at) s (step.timers p s run part Collecting)
  timers_follow run part at b stands l = by at b stands l where
    left : Bool → Standing → Type 0
    left heap at = Leaves (rest (waiting (Stage.Timers part Collecting) heap s.ready (due_now s)) s) at

    step_by : Bool → Standing → Type 0
    step_by heap at = Follows p told names (Running run.mode run.line at) s (if heap then step.call_due p s run part else step.collect p s run part)

    by : (at : Standing) → sites_at at ≡ [] → StandsIn p (Stage.Timers part Collecting) at → left (from_heap p) at → step_by (from_heap p) at
    by at b (collects {w = w} heap none) l = subst (λ (x : Bool). step_by x at) (sym heap)
        (collect_follows p told names s h run part w (subst (λ (x : Bool). left x at) heap l) b heap)
    by at b (calls_due {w = w} heap none) l = subst (λ (x : Bool). step_by x at) (sym heap)
        (call_due_follows p told names s h run part w (subst (λ (x : Bool). left x at) heap l) none b heap)

  stage_follows : (run : Run) (x : Stage) (at : Standing) → run.stage ≡ x → sites_at at ≡ [] → StandsIn p x at →
      Leaves (rest (waiting x (from_heap p) s.ready (due_now s)) s) at →
      Follows p told names (Running run.mode run.line at) s (step.stage_step p s run x)
  stage_follows run Stage.Entry at st b begun l = turn_follows p told names s h run AtEntry Begun refl tt l
  stage_follows run Stage.Pending at st b (pending {w = w} none) l = begin_follows p told names s h run WatcherKind.Idle _
      (empty_over Phase.Pending w none b, tt) (λ o m go. refl) refl (assumption l)
  stage_follows run (Stage.Walking WatcherKind.Async) at st b walking l = async_follows p told names s h run _ st l b
  stage_follows run (Stage.Walking q) at st b walking l = walk_follows p told names s h run q _ tt st l b
  stage_follows run (Stage.Poll deadline) at st b polls l = left_poll run deadline (assumption l)
  stage_follows run (Stage.Polled woken) at st b polled l = left_polled run woken _ b (assumption l)
  stage_follows run Stage.Done at st b (done woken) l = done_follows p told names s h run _ st l woken b
  stage_follows run Stage.DoneUnwoken at st b (unwoken {w = w} asleep none) l = unwoken_follows p told names s h run w asleep none b (grind arith)
  stage_follows run Stage.Closing at st b closing l = closing_follows p told names s h run _ st l b
  stage_follows run (Stage.Timers part Collecting) at st b stands l = timers_follow run part at b stands l
  stage_follows run (Stage.Timers part Firing) at st b (fires heap) l = fire_follows p told names s h run part _ l b heap

  -- ---- ops

  pub none_left : (o : Op) → NobodyLeft (rest s.ready s) → NobodyLeft (rest (do_op s o).state.ready (do_op s o).state)
  none_left o l = let f = op_effect names s o h.agrees h.kept in grind (arith, left_all, still_none)

  async_in : (o : Op) (word : Phase) (w : Walk) (more : List Site) → AsyncIn word s.arena.slots w s.watchers.async.yet →
      AsyncIn word (do_op s o).state.arena.slots (record w { off = taken_off word names o (do_op s o).answer ++ w.off; body = more })
      (do_op s o).state.watchers.async.yet
  async_in o Phase.Async w more l =
      let f = op_effect names s o h.agrees h.kept in
      search (more_left, pass_more, still_sent)
  async_in o word w more l = still_none _ s.watchers.async.yet _ (op_effect names s o h.agrees h.kept).async l

  -- who is left after an op, in each section that calls
  op_left : (o : Op) (part : Section) (w : Walk) (more : List Site) → Leaves (rest s.ready s) (Within part w) →
      Leaves (rest (do_op s o).state.ready (do_op s o).state) (Within part (done_one names o (do_op s o).answer part w more))
  op_left o part w more l =
      let f = op_effect names s o h.agrees h.kept in
      let a = (do_op s o).answer in
      search (left_all, left_in, async_in, none_off, closing_takes_none, done_takes_none)

  -- an op is done, and nobody is called
  op_counted : (o : Op) (sent : List Id) → Counted p (do_op s o).state.names (record told { sent = sent })
  op_counted o sent = counted_sent p _ told sent (counted_kept p _ s.names told (op_effect names s o h.agrees h.kept).calls h.counted)

  -- the next op of a body, in a section or behind a callback of I/O that left the poll
  body_follows : (run : Run) (body : Body) (at : Standing) (x : Option CallbackLine) → slice_get (lines_in p body.callback body.name) body.next ≡ x →
      IsBody p (Some body) (sites_at at) → StandsIn p run.stage at → Leaves (rest (waiting run.stage (from_heap p) s.ready (due_now s)) s) at →
      Follows p told names (Running run.mode run.line at) s (step.body_step p s run body x)
  body_follows run body at None e b f l = absurd (cc (e, b.there))
  body_follows run body Begun (Some y) e b f l = absurd (cc b.are)
  body_follows run body (Polling deadline) (Some y) e b f l = absurd (cc b.are)
  body_follows run body (Within part w) (Some y) e b f l =
      let some : w.body ≡ [] → ⊥ = λ none. cc (none, b.are) in
      let place = Site.In body.callback body.name body.next in
      follows_to (doc.body_op place _ y.op _ b.are (ap (option_map (λ (c : CallbackLine). c.op)) e) refl
      (op_effect names s y.op h.agrees h.kept).lasts)
      (running (is_body p body.callback body.name body.call (body.next + 1)) (still_in p run.stage part w _ _ f some)
      (rw (ready_only p run.stage part w (do_op s y.op).state.ready (due_now (do_op s y.op).state) f some)
      (op_left y.op part w _ (rw (ready_only p run.stage part w s.ready (due_now s) f some) at l)))) (op_counted y.op _)
  body_follows run body (Answering woken sites) (Some y) e b f l =
      let left = none_left y.op (none_waits p run.stage woken sites s f l) in
      let more = sites_from body.callback body.name body.call (body.next + 1) (drop (body.next + 1) (lines_in p body.callback body.name)) in
      let stage = is_polled p run.stage woken sites f in
      follows_to {to = Running run.mode run.line (Answering woken more)} (rw b.are (doc.answer_op (Site.In body.callback body.name body.next) _ y.op _
      (ap (option_map (λ (c : CallbackLine). c.op)) e) refl (op_effect names s y.op h.agrees h.kept).lasts))
      (running (is_body p body.callback body.name body.call (body.next + 1)) (rw stage polled) (rw stage (assumption left))) (op_counted y.op _)

  -- ---- the main program, and a whole step

  main_follows : (i : ℕ) (x : Option MainOp) → slice_get p.main i ≡ x → NobodyLeft (rest s.ready s) →
      Follows p told names (Between i) s (step.main_step (order_of p) s i x)
  main_follows i None e l = tt
  main_follows i (Some (MainOp.Run m)) e l = record {
    to = Running m i Begun;
    goes = doc.run m e refl (grind arith);
    stands = cond_both (step.refreshes (order_of p) m) (refreshed s) s (λ (t : State). Stands p told (begun_in t) (Running m i Begun))
        (λ d. begun_at s.clock) (λ d. begun_at s.time);
  } where
    begun_in : State → State
    begun_in t = record t { place = Place.Running (record { mode = m; line = i; stage = Stage.Entry; body = None }) }

    begun_at : (time : ℕ) → Stands p told (begun_in (record s { time = time })) (Running m i Begun)
    begun_at time = record { stands = running refl begun l; counted = h.counted }
  main_follows i (Some (MainOp.Op o)) e l = follows_to (doc.main_line o _ (ap main_op e) refl (op_effect names s o h.agrees h.kept).lasts)
      (between (none_left o l)) (op_counted o _)

  place_follows : (x : Place) (at : Position) → StandsAt p s x at → Follows p told names at s (step.loop_step p s x)
  place_follows (Place.Main i) at (between e) = main_follows i (slice_get p.main i) refl e
  place_follows (Place.Running run) at (running {at = y} b f l) = by run.body b where
    by : (body : Option Body) → IsBody p body (sites_at y) → Follows p told names (Running run.mode run.line y) s (step.run_step p s run body)
    by None b = stage_follows run run.stage y refl b f l
    by (Some body) b = body_follows run body y _ refl b f l

  tick_follows : (at : Position) (ms : ℕ) → StandsAt p s s.place at → Follows p told names at s (step.tick s ms)
  tick_follows at ms on = cond_both (nat_le (s.clock + ms) 4611686018427387904) _ _ (Follows p told names at s)
      (λ e. follows_to (doc.outside ms refl refl) (ticked p s ms s.place at on) h.counted) (λ e. tt)

  send_follows : (at : Position) (v : Var) → StandsAt p s s.place at → Follows p told names at s (step.sent_to s v)
  send_follows at v on = cond_both (nat_lt v.0 (length s.names)) _ _ (Follows p told names at s)
      (λ e. send_both s v (λ (c : ops.Coded). FollowsLine p told names at s (Seen.Send v c.code) c.state)
      (λ c no_success. follows_to (doc.sent v c refl refl) on (counted_sent p _ told _ h.counted))
      (λ t f is. follows_to (doc.sent v Code.Ok refl refl) (sent_on p s t (live_held s v t f) s.place at on) (counted_sent p _ told _ h.counted)))
      (λ e. tt)

  take_follows : (at : Position) (n : ℕ) (t : Result (Id × Request) Why) → next_work s (slice_get s.running n) ≡ t → StandsAt p s s.place at →
      Follows p told names at s (step.take s n t)
  take_follows at n (Err why) e on = tt
  take_follows at n (Ok t) e on =
      follows_to (doc.taken n t.1.name t.0 refl (h.agrees.made t.0 t.1.name (ap (option_map name_in) (takes_front s n t e).front.holds)) refl)
      (works_on p s (drop 1 s.waiting) (slice_set s.running n (Some t.0)) s.place at on) h.counted

  finish_follows : (at : Position) (n : ℕ) (t : Result (Id × Request) Why) → work_of s (slice_get s.running n) ≡ t → StandsAt p s s.place at →
      Follows p told names at s (step.finish s n t)
  finish_follows at n (Err why) e on = tt
  finish_follows at n (Ok t) e on =
      let f = runs_work s n t e in
      follows_to (doc.finished n t.1.name t.0 refl (h.agrees.made t.0 t.1.name (ap (option_map name_in) f.holds)) refl)
      (ends_on p s t _ s.waiting (slice_set s.running n None) f.holds s.place at on) h.counted

  cancel_follows : (at : Position) (v : Var) → StandsAt p s s.place at → Follows p told names at s (step.cancels s v)
  cancel_follows at v on = cond_both (nat_lt v.0 (length s.names)) _ _ (Follows p told names at s)
      (λ e. cancel_both s v (λ (d : ops.Done). FollowsLine p told names at s (Seen.Cancel v d.answer) d.state)
      (λ c no_success. follows_to (doc.cancelled v (Answer.Code c) refl refl) on h.counted)
      (λ t held waits. follows_to (doc.cancelled v (Answer.Cancelled t.0) refl refl)
      (ends_on p s t _ _ s.running held.holds s.place at on) h.counted))
      (λ e. tt)

  pub follows : (at : Position) (e : Event) → StandsAt p s s.place at → Follows p told names at s (next p s e)
  unfolding next
  follows at Loop on = place_follows s.place at on
  follows at (Take n) on = take_follows at n (next_work s (slice_get s.running n)) refl on
  follows at (Finish n) on = finish_follows at n (work_of s (slice_get s.running n)) refl on
  follows at (Cancel v) on = cancel_follows at v on
  follows at (Send v) on = send_follows at v on
  follows at (Io v) on = io_follows p told names s h at v on
  follows at (Tick ms) on = tick_follows at ms on

-- ---- all steps

pub begins_at : (p : Program) (s : State) (x : Place) (at : Position) → StandsAt p s x at → BeginsAt x s
begins_at p s (Place.Main i) at h = tt
begins_at p s (Place.Running run) at (running {at = y} b f l) = by run.body run.stage y f l where
  by : (body : Option Body) (x : Stage) (y : Standing) → StandsIn p x y → Leaves (rest (waiting x (from_heap p) s.ready (due_now s)) s) y →
      BeginsIn body x s
  by None x y (walking {q = WatcherKind.Idle}) l = l.prepare
  by None x y each l = grind arith
  by (Some body) x y f l = tt

-- where every script begins
pub stands_fresh : (p : Program) → Stands p nothing_told (fresh p) (Between 0)
stands_fresh p = record {
  stands = between (left_all refl refl refl refl refl refl refl);
  counted = counted_fresh p;
}

-- Callbacks of I/O: the step that begins one goes on from where the state stands.
use Rattle.uv_order.proofs.Names.{arith, ◌≡◌, ℕ, ◌&&◌, ◌||◌, List, Bool, true, not, Option, Some, None, Result, Ok, Err, length, nat_lt, refl, subst, cond_both, and_parts, Id, Var, Mode, Code, Site, Program, from_heap, has_io, HandleRecord, is_io, Body, Run, Stage, Place, State, live_handle, has_some, io_run, io_handle, stage_polled, takes_io, time_polled, Told, MayAnswer, lasting, Standing, Answering, Position, Running, body_of, next_call, Callback, WatcherKind, [], with_named, counted, count_of, body_from, Names, named}
use Rattle.uv_model.specs.Next as step
use Rattle.uv_order.specs.Documented as doc
use Rattle.uv_order.proofs.Lemmas.{io_kind, live_held, counted_sent, told_call, IsBody, live_bound}
use Rattle.uv_order.proofs.Woken.{pending_is}
use Rattle.uv_order.proofs.Standing.{StandsIn, StandsAt, waiting, rest, Leaves, due_now, Follows, pending, walking, polls, polled, done, unwoken, between, running, Has, sites_at, follows_to}
use Rattle.uv_order.proofs.TimersFollow.{call_counted, its_body}
use Rattle.uv_order.proofs.WatchersFollow.{async_over, none_behind}

-- the state in which the callback has begun
abbrev io_begun : Program → State → Run → Var → State
io_begun p s run v = record (with_named s v (record (named s v) { calls = counted Callback.Handle (named s v).calls })) {
  time = time_polled s run.stage;
  place = Place.Running (record run {
    stage = stage_polled s run.stage;
    body = body_from p Callback.Handle v (count_of Callback.Handle (counted Callback.Handle (named s v).calls)) 0;
  });
}

-- the ops of its body
abbrev io_body : Program → Told → Var → List Site
io_body p told v = body_of p Callback.Handle v (next_call told Callback.Handle v)

-- one may begin there, sets what it should, and the state stands behind it then
record Answers (p : Program) (told : Told) (s : State) (run : Run) (v : Var) (at : Standing) : Type 0 where
  may : MayAnswer at
  lasts : lasting (io_begun p s run v) ≡ doc.after_io at s
  stands : StandsAt p (io_begun p s run v) (io_begun p s run v).place (Running run.mode run.line (doc.answering s told (io_body p told v) at))

none_yet : (ids : List Id) → not (has_some ids) ≡ true → ids ≡ []
none_yet ids e = grind arith

module _ (p : Program) (told : Told) (names : Names) (s : State) (h : Has p told names s) where
  -- where a run stands without a callback under way
  answers : (m : Mode) (i : ℕ) (x : Stage) (v : Var) (at : Standing) → takes_io s x None ≡ true → sites_at at ≡ [] → StandsIn p x at →
      Leaves (rest (waiting x (from_heap p) s.ready (due_now s)) s) at → Answers p told s (record { mode = m; line = i; stage = x; body = None }) v at
  answers m i Stage.Pending v at on b (pending none) l = record {
    may = b;
    lasts = refl;
    stands = running (its_body p told s Callback.Handle v h.counted) (pending none) (assumption l);
  }
  answers m i (Stage.Poll deadline) v at on b polls l = record {
    may = tt;
    lasts = refl;
    stands = subst (λ (x : Bool). StandsAt p (io_begun p s run v) (io_begun p s run v).place
        (Running m i (Answering (has_some s.done.list || x) (io_body p told v)))) (pending_is told s h.sent)
        (running (its_body p told s Callback.Handle v h.counted) polled (assumption l));
  } where
    run : Run
    run = record { mode = m; line = i; stage = Stage.Poll deadline; body = None }
  answers m i (Stage.Polled woken) v at on b polled l = record {
    may = b;
    lasts = refl;
    stands = running (its_body p told s Callback.Handle v h.counted) polled (assumption l);
  }
  answers m i Stage.Done v at on b (done woken) l = record {
    may = b;
    lasts = refl;
    stands = running (its_body p told s Callback.Handle v h.counted) (done woken) (assumption l);
  }
  answers m i Stage.DoneUnwoken v at on b (unwoken asleep none) l = record {
    may = b;
    lasts = refl;
    stands = running (its_body p told s Callback.Handle v h.counted) (unwoken asleep none) (assumption l);
  }
  answers m i (Stage.Walking WatcherKind.Async) v at on b (walking {w = w}) l =
      let none = none_yet s.watchers.async.yet on in
      record {
        may = async_over s.arena.slots w s.watchers.async.yet l.async none b;
        lasts = refl;
        stands = running (its_body p told s Callback.Handle v h.counted) (walking {q = WatcherKind.Async})
            (assumption (none_behind s.arena.slots (record w { ahead = []; body = io_body p told v }) s.watchers.async.yet refl none, l));
      }
  answers m i x v at on b stands l = grind arith

  -- the step goes on, or is refused
  pub io_follows : (at : Position) (v : Var) → StandsAt p s s.place at → Follows p told names at s (step.io p s v)
  io_follows at v on = cond_both (nat_lt v.0 (length s.names)) _ _ (Follows p told names at s)
      (λ e. by s.place at on (live_handle s v) refl) (λ e. tt)
    where
      begun : (run : Run) (body : Option Body) (at : Standing) (t : Id × HandleRecord) → live_handle s v ≡ Ok t → has_io p ≡ true →
          takes_io s run.stage body ≡ true → is_io t.1.kind ≡ true → t.1.active ≡ true → IsBody p body (sites_at at) →
          StandsIn p run.stage at → Leaves (rest (waiting run.stage (from_heap p) s.ready (due_now s)) s) at →
          Follows p told names (Running run.mode run.line at) s (step.call_io p s v (Some run) (Some t.0))
      begun run (Some body) at t e io takes is active b f l = cc takes
      begun run None at t e io takes is active b f l =
          let a = answers run.mode run.line run.stage v at takes b f l in
          follows_to (doc.answers v t.0 io a.may (record { its = t.1; holds = live_held s v t e; kind = io_kind t.1.kind is; active = active })
          (h.agrees.under v t.0 (live_bound s v t e)) refl a.lasts) a.stands
          (counted_sent p _ (told_call Callback.Handle v t.0 told) told.sent (call_counted p told s Callback.Handle v t.0 h.counted))

      found : (run : Run) (at : Standing) (t : Result (Id × HandleRecord) Code) → live_handle s v ≡ t → has_io p ≡ true →
          takes_io s run.stage run.body ≡ true → IsBody p run.body (sites_at at) → StandsIn p run.stage at →
          Leaves (rest (waiting run.stage (from_heap p) s.ready (due_now s)) s) at →
          Follows p told names (Running run.mode run.line at) s (step.call_io p s v (Some run) (io_handle t))
      found run at (Err code) e io takes b f l = tt
      found run at (Ok t) e io takes b f l = cond_both (is_io t.1.kind && t.1.active) _ _
          (λ (id : Option Id). Follows p told names (Running run.mode run.line at) s (step.call_io p s v (Some run) id))
          (λ on. let parts = and_parts (is_io t.1.kind) t.1.active on in begun run run.body at t e io takes parts.0 parts.1 b f l) (λ off. tt)

      by : (x : Place) (at : Position) → StandsAt p s x at → (t : Result (Id × HandleRecord) Code) → live_handle s v ≡ t →
          Follows p told names at s (step.call_io p s v (io_run p s x) (io_handle t))
      by (Place.Main i) at (between l) t e = tt
      by (Place.Running run) at (running {at = y} b f l) t e = cond_both (has_io p && takes_io s run.stage run.body) _ _
          (λ (o : Option Run). Follows p told names (Running run.mode run.line y) s (step.call_io p s v o (io_handle t)))
          (λ on. let parts = and_parts (has_io p) (takes_io s run.stage run.body) on in found run y t e parts.0 parts.1 b f l) (λ off. tt)

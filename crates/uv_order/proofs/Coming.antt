-- Where a callback of I/O may begin, each that comes is taken.
use Rattle.uv_order.proofs.Names.{arith, ◌≡◌, ℕ, ◌+◌, refl, List, true, false, Option, Some, None, length, nat_lt, slice_get, unwrap_or, unbound, Event, Io, Id, Var, Named, Program, has_io, State, Body, Stage, Place, live_handle, io_handle, io_run, takes_io, has_some, Standing, Position, WatcherKind, at_first, MayAnswer, history, next, slice_get_within, refusal_of, quiet_at, body_left}
use Rattle.uv_model.specs.After as after
use Rattle.uv_model.specs.Next as step
use Rattle.uv_order.specs.Coming.{IsOfIo, IsSettled, MayAnswerAt, TakesIoFrom}
use Rattle.uv_order.proofs.Documents.{course}
use Rattle.uv_order.proofs.Leading.{led_by}
use Rattle.uv_order.proofs.Lemmas.{is_held}
use Rattle.uv_order.proofs.Standing.{StandsIn, StandsAt, begun, pending, walking, polls, polled, done, unwoken, closing, between, running}

none_yet : (ids : List Id) (n : ℕ) → length ids + n ≡ 0 → has_some ids ≡ false
none_yet ids n e = grind arith

-- where a run stands without a callback under way, and one may begin
takes_in : (p : Program) (s : State) (x : Stage) (y : Standing) → StandsIn p x y → MayAnswer y → length s.watchers.async.yet + 0 ≡ 0 →
    takes_io s x None ≡ true
takes_in p s x y (pending none) may e = refl
takes_in p s (Stage.Walking WatcherKind.Async) y walking may e = let none = none_yet s.watchers.async.yet 0 e in grind arith
takes_in p s (Stage.Walking each) y walking may e = absurd may
takes_in p s x y polls may e = refl
takes_in p s x y polled may e = refl
takes_in p s x y (done woken) may e = refl
takes_in p s x y (unwoken asleep none) may e = refl
takes_in p s x y begun may e = absurd may
takes_in p s x y closing may e = absurd may
takes_in p s x y each may e = grind arith

takes_body : (p : Program) (s : State) (x : Stage) (body : Option Body) (y : Standing) → StandsIn p x y → MayAnswer y →
    length s.watchers.async.yet + body_left body ≡ 0 → takes_io s x body ≡ true
takes_body p s x None y f may e = takes_in p s x y f may e
takes_body p s x (Some body) y f may e = grind arith

-- the handle of a name
its_io : (s : State) (v : Var) (h : IsOfIo s v) → io_handle (live_handle s v) ≡ Some h.id
its_io s v h = let there = is_held s.arena.slots h.id h.active.its h.active.holds in
    rw (h.bound, there, h.active.kind, h.active.active) refl

named_within : (names : List Named) (i : ℕ) (id : Id) → (unwrap_or (slice_get names i) unbound).id ≡ Some id → nat_lt i (length names) ≡ true
named_within names i id e = by (slice_get names i) refl where
  by : (o : Option Named) → slice_get names i ≡ o → nat_lt i (length names) ≡ true
  by None e2 = grind arith
  by (Some n) e2 = grind (arith, slice_get_within names i n e2)

comes : (p : Program) (s : State) (at : Position) → has_io p ≡ true → (x : Place) → StandsAt p s x at → MayAnswerAt at →
    length s.watchers.async.yet + quiet_at x ≡ 0 → (v : Var) → IsOfIo s v →
    refusal_of (step.call_io p s v (io_run p s x) (io_handle (live_handle s v))) ≡ None
comes p s at io (Place.Main i) (between l) may e v h = absurd may
comes p s at io (Place.Running run) (running {at = y} b f l) may e v h =
    rw (io, takes_body p s run.stage run.body y f may e, its_io s v h) refl

taken : (p : Program) (s : State) (at : Position) → StandsAt p s s.place at → has_io p ≡ true → MayAnswerAt at → IsSettled s → (v : Var) →
    IsOfIo s v → refusal_of (next p s (Io v)) ≡ None
unfolding next
taken p s at on io may settled v h =
    rw (named_within s.names v.0 h.id h.bound) (comes p s at io s.place on may settled v h)

pub io_comes : (p : Program) (es : List Event) → TakesIoFrom p (history p es) (after.after p es)
io_comes p es =
    let r = led_by at_first (course p es) refl in
    record { at = r.to; leads = r.leads; taken = taken p (after.after p es) r.to r.stands }

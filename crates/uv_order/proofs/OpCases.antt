-- An op by its cases: it is refused, or done with the handle of a live name.
use Rattle.uv_order.proofs.Names.{arith, ℕ, ◌≡◌, Bool, true, false, Option, Some, None, Result, Ok, Err, refl, ap, list_any, cond_both, Id, Var, Code, Success, Answer, Kind, HandleRecord, WatcherKind, is_timer, is_io, activated, sent, watcher_kind, is_startable, timer_refusal, start_timer_refusal, stop_refusal, again_refusal, close_refusal, send_refusal, no_refusal, held, next_free, Op, Task, Content, Request, handle_in, same_id, State, handle, named, live, live_handle, live_request, as_request, with_handle, refreshed, do_op, found_both, Names, kind_as}
use Rattle.uv_model.specs.Ops as ops
use Rattle.uv_order.proofs.Holding.{name_at}

-- ---- kinds

pub timer_kind : (k : Kind) → is_timer k ≡ true → k ≡ Kind.Timer
timer_kind each e = grind arith

pub io_kind : (k : Kind) → is_io k ≡ true → k ≡ Kind.Io
io_kind each e = grind arith

-- ---- live names

-- what a name is bound to, and what is held is called, these say too; and what a name is bound to was made under it
pub record Agrees (names : Names) (s : State) : Type 0 where
  pub bound : (v : Var) (id : Id) → (named s v).id ≡ Some id → names.bound v ≡ Some id
  pub made : (id : Id) (v : Var) → name_at s.arena.slots id ≡ Some v → names.made id ≡ Some v
  pub under : (v : Var) (id : Id) → (named s v).id ≡ Some id → names.made id ≡ Some v

-- what a live name stands for is held, and the name is bound to it
pub record IsLive (s : State) (v : Var) (id : Id) (c : Content) : Type 0 where
  pub bound : (named s v).id ≡ Some id
  pub holds : held s.arena.slots id ≡ Some c

pub live_as_handle : (s : State) (v : Var) (t : Id × HandleRecord) → live_handle s v ≡ Ok t → IsLive s v t.0 (Content.Handle t.1)
live_as_handle s v t e = grind arith

-- a live name's handle is held
pub live_held : (s : State) (v : Var) (t : Id × HandleRecord) → live_handle s v ≡ Ok t → handle s t.0 ≡ Some t.1
live_held s v t e = ap handle_in (live_as_handle s v t e).holds

-- and it is bound to it
pub live_bound : (s : State) (v : Var) (t : Id × HandleRecord) → live_handle s v ≡ Ok t → (named s v).id ≡ Some t.0
live_bound s v t e = (live_as_handle s v t e).bound

-- ---- ops

-- a code that says why an op is refused
abbrev pub IsRefusal : Code → Type 0
IsRefusal c = c ≡ Success → ⊥

-- the op is refused by such codes
abbrev pub Refuses : (HandleRecord → Option Code) → Type 0
Refuses why = (h : HandleRecord) (c : Code) → why h ≡ Some c → IsRefusal c

pub refuses_none : Refuses no_refusal
refuses_none h c e ok = cc e

pub refuses_timer : Refuses timer_refusal
refuses_timer h c e ok = grind arith

pub refuses_start : Refuses start_timer_refusal
refuses_start h c e ok = grind arith

pub refuses_stop : Refuses stop_refusal
refuses_stop h c e ok = grind arith

pub refuses_again : Refuses again_refusal
refuses_again h c e ok = grind arith

pub refuses_close : Refuses close_refusal
refuses_close h c e ok = grind arith

-- what is not refused
pub start_passes : (h : HandleRecord) → start_timer_refusal h ≡ None → (h.kind ≡ Kind.Timer) × (h.closing ≡ false)
start_passes h e = grind arith

pub again_passes : (h : HandleRecord) → again_refusal h ≡ None → (h.kind ≡ Kind.Timer) × (h.closing ≡ false) × (h.begun ≡ true)
again_passes h e = grind arith

pub send_passes : (h : HandleRecord) → send_refusal h ≡ None → (h.kind ≡ Kind.Async) × (h.closing ≡ false)
send_passes h e = grind arith

pub no_request : (o : Option (Id × Content)) (c : Code) → as_request o ≡ Err c → IsRefusal c
no_request o c e ok = grind arith

pub on_handle_both : (s : State) (v : Var) (why : HandleRecord → Option Code) (f : Id → HandleRecord → ops.Done) (P : ops.Done → Type 0) →
    Refuses why → ((c : Code) → IsRefusal c → P (ops.refuses s c)) →
    ((t : Id × HandleRecord) → live_handle s v ≡ Ok t → why t.1 ≡ None → P (f t.0 t.1)) → P (ops.on_handle s (live_handle s v) why f)
on_handle_both s v why f P codes refused done = at (live_handle s v) refl where
  at : (t : Result (Id × HandleRecord) Code) → live_handle s v ≡ t → P (ops.on_handle s t why f)
  at t e = grind arith

pub send_both : (s : State) (v : Var) (P : ops.Coded → Type 0) → ((c : Code) → IsRefusal c → P (record { state = s; code = c })) →
    ((t : Id × HandleRecord) → live_handle s v ≡ Ok t → send_refusal t.1 ≡ None → P (record { state = with_handle s t.0 (sent t.1); code = Success }))
    → P (ops.send s (live_handle s v))
send_both s v P refused done = at (live_handle s v) refl where
  at : (t : Result (Id × HandleRecord) Code) → live_handle s v ≡ t → P (ops.send s t)
  at t e = grind arith

-- a request is cancelled where it waits, or the cancel is refused
pub cancel_both : (s : State) (v : Var) (P : ops.Done → Type 0) → ((c : Code) → IsRefusal c → P (ops.refuses s c)) →
    ((t : Id × Request) → IsLive s v t.0 (Content.Request t.1) → list_any (same_id t.0) s.waiting ≡ true →
    P (record { state = ops.cancelled s t.0 t.1; answer = Answer.Cancelled t.0 })) → P (ops.cancel s (live_request s v))
cancel_both s v P refused done = at (live_request s v) refl where
  at : (t : Result (Id × Request) Code) → live_request s v ≡ t → P (ops.cancel s t)
  at t e = grind arith

-- a slot is taken for what a name is bound to, or there is none
pub make_both : (s : State) (t : Option (Id × Content)) (made : Id → State) (P : ops.Done → Type 0) → ((c : Code) → IsRefusal c →
    P (ops.refuses s c)) →
    ((id : Id) → next_free s.arena ≡ Some id → P (record { state = made id; answer = Answer.Id id })) → P (ops.make s t made)
make_both s t made P refused done = grind arith

-- ---- what an op does

-- it only answers
pub data IsAsked : Op → Type 0 where
  due_in : (v : Var) → IsAsked (Op.DueIn v)
  has_ref : (v : Var) → IsAsked (Op.HasRef v)
  is_active : (v : Var) → IsAsked (Op.IsActive v)
  is_closing : (v : Var) → IsAsked (Op.IsClosing v)
  now : IsAsked Op.Now
  is_alive : IsAsked Op.IsAlive
  asks_timeout : IsAsked Op.Timeout
  close_loop : IsAsked Op.CloseLoop

-- it says whether the handle of this name is referenced
pub data IsRef : Op → Var → Bool → Type 0 where
  ref : (v : Var) → IsRef (Op.Ref v) v true
  unref : (v : Var) → IsRef (Op.Unref v) v false

abbrev pub MayRefuse : Op → Type 0
MayRefuse Op.StopLoop = ⊥
MayRefuse Op.UpdateTime = ⊥
MayRefuse o = Unit {0}

pub data DidOp (s : State) : Op → ops.Done → Type 0 where
  refused : (o : Op) (c : Code) → IsRefusal c → MayRefuse o → DidOp s o (ops.refuses s c)
  asked : (o : Op) (a : Answer) → IsAsked o → DidOp s o (ops.says s a)
  loop_stopped : DidOp s Op.StopLoop (ops.succeeds (record s { stop_flag = true }))
  time_updated : DidOp s Op.UpdateTime (ops.succeeds (refreshed s))
  -- a slot is taken
  made : (v : Var) (q : Kind) (id : Id) → next_free s.arena ≡ Some id
      → DidOp s (Op.Init v q) (record { state = ops.with_new s v q id; answer = Answer.Id id })
  queued : (v : Var) (task : Task) (id : Id) → next_free s.arena ≡ Some id
      → DidOp s (Op.Queue v task) (record { state = ops.with_queued s v task id; answer = Answer.Id id })
  -- the record of a request changes
  cancelled : (v : Var) (t : Id × Request) → IsLive s v t.0 (Content.Request t.1) → list_any (same_id t.0) s.waiting ≡ true
      → DidOp s (Op.Cancel v) (record { state = ops.cancelled s t.0 t.1; answer = Answer.Cancelled t.0 })
  -- that of a handle
  started : (v : Var) (timeout repeat : ℕ) (t : Id × HandleRecord) → live_handle s v ≡ Ok t → t.1.kind ≡ Kind.Timer → t.1.closing ≡ false
      → DidOp s (Op.Start v timeout repeat) (ops.start s timeout repeat t.0 t.1)
  again : (v : Var) (t : Id × HandleRecord) → live_handle s v ≡ Ok t → t.1.kind ≡ Kind.Timer → t.1.closing ≡ false → t.1.begun ≡ true
      → DidOp s (Op.Again v) (ops.again s t.0 t.1)
  watching : (v : Var) (q : WatcherKind) (t : Id × HandleRecord) → live_handle s v ≡ Ok t → t.1.kind ≡ kind_as q → t.1.active ≡ false
      → t.1.closing ≡ false → DidOp s (Op.StartWatcher v) (ops.succeeds (ops.watcher_started s q t.0 t.1))
  -- a handle of I/O is on no list
  io_started : (v : Var) (t : Id × HandleRecord) → live_handle s v ≡ Ok t → t.1.kind ≡ Kind.Io → t.1.active ≡ false → t.1.closing ≡ false
      → DidOp s (Op.StartWatcher v) (ops.succeeds (with_handle s t.0 (activated t.1)))
  -- a watcher that is active isn't started again
  watches : (v : Var) (t : Id × HandleRecord) → live_handle s v ≡ Ok t → t.1.active ≡ true → DidOp s (Op.StartWatcher v) (ops.succeeds s)
  stopped : (v : Var) (t : Id × HandleRecord) → live_handle s v ≡ Ok t → (t.1.kind ≡ Kind.Async → ⊥) → DidOp s (Op.Stop v) (ops.stop s t.0 t.1)
  closed : (v : Var) (t : Id × HandleRecord) → live_handle s v ≡ Ok t → t.1.closing ≡ false → DidOp s (Op.Close v) (ops.close s t.0 t.1)
  repeated : (v : Var) (n : ℕ) (t : Id × HandleRecord) → live_handle s v ≡ Ok t → DidOp s (Op.SetRepeat v n) (ops.set_repeat s n t.0 t.1)
  referenced : (o : Op) (v : Var) (flag : Bool) (t : Id × HandleRecord) → live_handle s v ≡ Ok t → IsRef o v flag
      → DidOp s o (ops.set_referenced s flag t.0 t.1)
  sent_to : (v : Var) (t : Id × HandleRecord) → live_handle s v ≡ Ok t → t.1.kind ≡ Kind.Async → t.1.closing ≡ false
      → DidOp s (Op.Send v) (record { state = with_handle s t.0 (sent t.1); answer = Answer.Code Success })

watcher_did : (s : State) (v : Var) (t : Id × HandleRecord) → live_handle s v ≡ Ok t → (is_startable t.1.kind ≡ true) × (t.1.closing ≡ false) →
    DidOp s (Op.StartWatcher v) (ops.start_watcher s t.0 t.1)
watcher_did s v t e may =
    let by : State → Type 0 = λ u. DidOp s (Op.StartWatcher v) (ops.succeeds u) in
    cond_both t.1.active s _ by (λ on. watches v t e on)
    (λ off. found_both (watcher_kind t.1.kind) _ _ by (λ q is. watching v q t e (grind arith) off may.1)
    (λ none. io_started v t e (grind arith) off may.1))

-- an op on a handle
held_did : (s : State) (o : Op) (v : Var) (why : HandleRecord → Option Code) (f : Id → HandleRecord → ops.Done) → MayRefuse o → Refuses why →
    ((t : Id × HandleRecord) → live_handle s v ≡ Ok t → why t.1 ≡ None → DidOp s o (f t.0 t.1)) → DidOp s o (ops.on_handle s (live_handle s v) why f)
held_did s o v why f may codes done = on_handle_both s v why f (DidOp s o) codes (λ c r. refused o c r may) done

pub op_did : (s : State) (o : Op) → DidOp s o (do_op s o)
op_did s (Op.Init v q) = make_both s (live s v) (ops.with_new s v q) (DidOp s (Op.Init v q)) (λ c r. refused _ c r tt) (λ id e. made v q id e)
op_did s (Op.Queue v task) =
    make_both s (live s v) (ops.with_queued s v task) (DidOp s (Op.Queue v task)) (λ c r. refused _ c r tt) (λ id e. queued v task id e)
op_did s (Op.Cancel v) = cancel_both s v (DidOp s (Op.Cancel v)) (λ c r. refused _ c r tt) (λ t live on. cancelled v t live on)
op_did s (Op.Start v timeout repeat) = held_did s (Op.Start v timeout repeat) v start_timer_refusal _ tt refuses_start
    (λ t e is. let p = start_passes t.1 is in started v timeout repeat t e p.0 p.1)
op_did s (Op.StartWatcher v) = grind (arith, held_did, watcher_did)
op_did s (Op.Stop v) = held_did s (Op.Stop v) v stop_refusal _ tt refuses_stop (λ t e is. stopped v t e (grind arith))
op_did s (Op.Again v) = held_did s (Op.Again v) v again_refusal _ tt refuses_again
    (λ t e is. let p = again_passes t.1 is in again v t e p.0 p.1 p.2)
op_did s (Op.SetRepeat v n) = held_did s (Op.SetRepeat v n) v timer_refusal _ tt refuses_timer (λ t e is. repeated v n t e)
op_did s (Op.DueIn v) = held_did s (Op.DueIn v) v timer_refusal _ tt refuses_timer (λ t e is. asked _ _ (due_in v))
op_did s (Op.Close v) = held_did s (Op.Close v) v close_refusal _ tt refuses_close (λ t e is. closed v t e (grind arith))
op_did s (Op.Ref v) = held_did s (Op.Ref v) v no_refusal _ tt refuses_none (λ t e is. referenced _ v true t e (ref v))
op_did s (Op.Unref v) = held_did s (Op.Unref v) v no_refusal _ tt refuses_none (λ t e is. referenced _ v false t e (unref v))
op_did s (Op.HasRef v) = held_did s (Op.HasRef v) v no_refusal _ tt refuses_none (λ t e is. asked _ _ (has_ref v))
op_did s (Op.IsActive v) = held_did s (Op.IsActive v) v no_refusal _ tt refuses_none (λ t e is. asked _ _ (is_active v))
op_did s (Op.IsClosing v) = held_did s (Op.IsClosing v) v no_refusal _ tt refuses_none (λ t e is. asked _ _ (is_closing v))
op_did s (Op.Send v) = send_both s v (λ (c : ops.Coded). DidOp s (Op.Send v) (ops.says_code c)) (λ c r. refused _ c r tt)
    (λ t e is. let p = send_passes t.1 is in sent_to v t e p.0 p.1)
op_did s Op.StopLoop = loop_stopped
op_did s Op.UpdateTime = time_updated
op_did s Op.Now = asked _ _ now
op_did s Op.IsAlive = asked _ _ is_alive
op_did s Op.Timeout = asked _ _ asks_timeout
op_did s Op.CloseLoop = cond_both (ops.is_in_use s) _ _ (DidOp s Op.CloseLoop) (λ e. refused _ _ (λ ok. cc ok) tt) (λ e. asked _ _ close_loop)

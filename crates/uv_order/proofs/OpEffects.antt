-- What an op leaves of the lists that a section walks, of the counts of calls, and of what lasts from line to line.
use Rattle.uv_order.proofs.Names.{Bool, true, false, arith, ◌≡◌, ℕ, ◌==◌, List, ◌∷◌, Option, Some, None, Ok, length, slice_get, slice_set, unwrap_or, refl, ap, sym, ◌∙◌, zero, suc, cond_both, Id, Var, Code, Answer, Kind, Phase, Op, HandleRecord, Named, Walk, without_id, State, handle, live_handle, unbound, stopped, do_op, has_id, Names, lasting, after_op, taken_off, ids_of, off_by, WatcherKind, kind_as, watched, [], elements, replicate}
use Rattle.uv_model.specs.Ops as ops
use Rattle.uv_order.proofs.IdLists.{left_of, none_off, without_absent, has_back}
use Rattle.uv_order.proofs.Holding.{Everyone, not_listed}
use Rattle.uv_order.proofs.Keeping.{Kept, Watches, members}
use Rattle.uv_order.proofs.OpCases.{DidOp, IsAsked, op_did, Agrees, live_held, live_bound, IsRefusal, IsRef}

-- ---- counts of calls

-- each name was called as often as before
pub record SameCalls (now was : List Named) : Type 0 where
  pub long : length now ≡ length was
  pub each : (v : Var) → (unwrap_or (slice_get now v.0) unbound).calls ≡ (unwrap_or (slice_get was v.0) unbound).calls

pub same_calls : (names : List Named) → SameCalls names names
same_calls names = record { long = refl; each = λ v. refl }

pub set_long : (names : List Named) (i : ℕ) (x : Named) → length (slice_set names i x) ≡ length names
set_long names i x = grind (arith, elements)

-- what is said of each name, where it is said of the one that changes as before
pub set_says : {A : Type 0} (f : Named → A) (names : List Named) (i j : ℕ) (x : Named) → f x ≡ f (unwrap_or (slice_get names i) unbound) →
    f (unwrap_or (slice_get (slice_set names i x) j) unbound) ≡ f (unwrap_or (slice_get names j) unbound)
set_says f (n ∷ names) zero zero x e = e
set_says f (n ∷ names) (suc i) (suc j) x e = set_says f names i j x e
set_says f each e2 e3 x e = assumption

pub none_bound : (n i : ℕ) → unwrap_or (slice_get (replicate n unbound) i) unbound ≡ unbound
none_bound (suc n) (suc i) = none_bound n i
none_bound each i = assumption

-- ---- an op's effect

pub record Effect (names : Names) (s : State) (o : Op) (d : ops.Done) : Type 0 where
  pub lasts : lasting d.state ≡ after_op o s
  pub calls : SameCalls d.state.names s.names
  pub ready : d.state.ready ≡ left_of s.ready (taken_off Phase.Timers names o d.answer)
  pub idle : d.state.watchers.idle.yet ≡ left_of s.watchers.idle.yet (taken_off Phase.Idle names o d.answer)
  pub prepare : d.state.watchers.prepare.yet ≡ left_of s.watchers.prepare.yet (taken_off Phase.Prepare names o d.answer)
  pub check : d.state.watchers.check.yet ≡ left_of s.watchers.check.yet (taken_off Phase.Check names o d.answer)
  pub async : d.state.watchers.async.yet ≡ left_of s.watchers.async.yet (taken_off Phase.Async names o d.answer)
  pub closing : d.state.closing.yet ≡ s.closing.yet
  pub done : d.state.done.yet ≡ s.done.yet

-- the op takes nobody off
abbrev pub TakesNone : Names → Op → Answer → Type 0
TakesNone names o a = (word : Phase) → taken_off word names o a ≡ []

-- who stands on the lists that a section walks
record SameLists (now was : State) : Type 0 where
  ready : now.ready ≡ was.ready
  idle : now.watchers.idle.yet ≡ was.watchers.idle.yet
  prepare : now.watchers.prepare.yet ≡ was.watchers.prepare.yet
  check : now.watchers.check.yet ≡ was.watchers.check.yet
  async : now.watchers.async.yet ≡ was.watchers.async.yet
  closing : now.closing.yet ≡ was.closing.yet
  done : now.done.yet ≡ was.done.yet

-- nobody is taken off, and the lists stay
quiet : (names : Names) (s : State) (o : Op) (d : ops.Done) → TakesNone names o d.answer → lasting d.state ≡ after_op o s →
    SameCalls d.state.names s.names → SameLists d.state s → Effect names s o d
quiet names s o d none lasts calls lists = grind (arith, none_off)

-- an op that is refused, or that only answers
says_effect : (names : Names) (s : State) (o : Op) (a : Answer) → TakesNone names o a → after_op o s ≡ lasting s → Effect names s o (ops.says s a)
says_effect names s o a none lasts = quiet names s o (ops.says s a) none (sym lasts) (same_calls s.names) (grind arith)

refused_effect : (names : Names) (s : State) (o : Op) → after_op o s ≡ lasting s → (c : Code) → IsRefusal c → Effect names s o (ops.refuses s c)
refused_effect names s o lasts c no_success = says_effect names s o (Answer.Code c) (grind arith) lasts

-- ---- stopping

-- a handle of another kind isn't on a list of watchers
not_yet : (s : State) (q : Kind) (w : Walk Id) (id : Id) (h : HandleRecord) → handle s id ≡ Some h → (h.kind ≡ q → ⊥) →
    Everyone s.arena.slots (Watches q) (members w) → without_id w.yet id ≡ left_of w.yet []
not_yet s q w id h e d l =
    let away : has_id w.yet id ≡ false = has_back w.list w.yet id (not_listed s.arena.slots (Watches q) id h (members w) e (λ x. d x.kind) l.each) in
    without_absent w.yet id away ∙ sym (none_off w.yet)

-- the id of a live name
pub one_taken : (names : Names) (s : State) (v : Var) (t : Id × HandleRecord) → Agrees names s → live_handle s v ≡ Ok t →
    ids_of names (Some v) ≡ t.0 ∷ []
one_taken names s v t a e = rw (a.bound v t.0 (live_bound s v t e)) refl

taken_one : (names : Names) (s : State) (v : Var) (t : Id × HandleRecord) (ids : List Id) → Agrees names s → live_handle s v ≡ Ok t →
    without_id ids t.0 ≡ left_of ids (ids_of names (Some v))
taken_one names s v t ids a e = rw (one_taken names s v t a e) (grind arith)

stop_effect : (names : Names) (s : State) (v : Var) (t : Id × HandleRecord) → Agrees names s → live_handle s v ≡ Ok t → (t.1.kind ≡ Kind.Async → ⊥) →
    Kept s → Effect names s (Op.Stop v) (ops.stop s t.0 t.1)
stop_effect names s v t a e apart k = assumption (
  same_calls s.names,
  taken_one names s v t s.ready a e,
  taken_one names s v t s.watchers.idle.yet a e,
  taken_one names s v t s.watchers.prepare.yet a e,
  taken_one names s v t s.watchers.check.yet a e,
  not_yet s Kind.Async s.watchers.async t.0 t.1 (live_held s v t e) apart (k.watchers WatcherKind.Async),
)

close_effect : (names : Names) (s : State) (v : Var) (t : Id × HandleRecord) → Agrees names s → live_handle s v ≡ Ok t →
    Effect names s (Op.Close v) (ops.close s t.0 t.1)
close_effect names s v t a e = grind (arith, taken_one names s v t)

-- ---- timers

-- a timer is not a watcher
apart : (h : HandleRecord) (q : Kind) → h.kind ≡ Kind.Timer → (Kind.Timer ≡ q → ⊥) → h.kind ≡ q → ⊥
apart h q e d f = d (sym e ∙ f)

timer_effect : (names : Names) (s u : State) (o : Op) (v : Var) (t : Id × HandleRecord) → Agrees names s → live_handle s v ≡ Ok t →
    t.1.kind ≡ Kind.Timer → Kept s → ((word : Phase) → off_by word o ≡ off_by word (Op.Again v)) → after_op o s ≡ lasting s → lasting u ≡ lasting s →
    u.names ≡ s.names → SameLists u (stopped s t.0 t.1) → Effect names s o (ops.succeeds u)
timer_effect names s u o v t a e is k off lasts same kept lists = record {
  lasts = same ∙ sym lasts;
  calls = rw kept (same_calls s.names);
  ready = lists.ready ∙ taken_one names s v t s.ready a e ∙ ap (λ (x : Option Var). left_of s.ready (ids_of names x)) (sym (off Phase.Timers));
  idle = lists.idle ∙ away WatcherKind.Idle (λ f. cc f) ∙ none_by Phase.Idle s.watchers.idle.yet refl;
  prepare = lists.prepare ∙ away WatcherKind.Prepare (λ f. cc f) ∙ none_by Phase.Prepare s.watchers.prepare.yet refl;
  check = lists.check ∙ away WatcherKind.Check (λ f. cc f) ∙ none_by Phase.Check s.watchers.check.yet refl;
  async = lists.async ∙ away WatcherKind.Async (λ f. cc f) ∙ none_by Phase.Async s.watchers.async.yet refl;
  closing = lists.closing;
  done = lists.done;
} where
  away : (q : WatcherKind) → (Kind.Timer ≡ kind_as q → ⊥) → without_id (watched s q).yet t.0 ≡ left_of (watched s q).yet []
  away q other = not_yet s (kind_as q) (watched s q) t.0 t.1 (live_held s v t e) (apart t.1 (kind_as q) is other) (k.watchers q)

  none_by : (word : Phase) (ids : List Id) → off_by word (Op.Again v) ≡ None → left_of ids [] ≡ left_of ids
      (taken_off word names o (Answer.Code Code.Ok))
  none_by word ids none = ap (λ (x : Option Var). left_of ids (ids_of names x)) (sym none ∙ sym (off word))

pub start_off : (v : Var) (timeout repeat : ℕ) (word : Phase) → off_by word (Op.Start v timeout repeat) ≡ off_by word (Op.Again v)
start_off v timeout repeat word = grind arith

start_effect : (names : Names) (s : State) (v : Var) (timeout repeat : ℕ) (t : Id × HandleRecord) → Agrees names s → live_handle s v ≡ Ok t →
    t.1.kind ≡ Kind.Timer → Kept s → Effect names s (Op.Start v timeout repeat) (ops.start s timeout repeat t.0 t.1)
start_effect names s v timeout repeat t a e is k = search (timer_effect, start_off)

again_effect : (names : Names) (s : State) (v : Var) (t : Id × HandleRecord) → Agrees names s → live_handle s v ≡ Ok t → t.1.kind ≡ Kind.Timer →
    Kept s → Effect names s (Op.Again v) (ops.again s t.0 t.1)
again_effect names s v t a e is k = cond_both (t.1.repeat == 0) _ _ (λ (u : State). Effect names s (Op.Again v) (ops.succeeds u))
    (λ z. timer_effect names s (stopped s t.0 t.1) (Op.Again v) v t a e is k (λ word. refl) refl refl refl (assumption))
    (λ z. search timer_effect)

-- ---- the other ops

-- such an op takes nobody off in any section
abbrev pub Harmless : Op → Type 0
Harmless o = (word : Phase) → off_by word o ≡ None

-- all but these are such
abbrev pub takes : Op → Bool
takes (Op.Start v timeout repeat) = true
takes (Op.Stop v) = true
takes (Op.Again v) = true
takes (Op.Close v) = true
takes o = false

pub harmless : (o : Op) → takes o ≡ false → Harmless o
harmless o e word = grind arith

-- it leaves all of that as it was
still : (names : Names) (s : State) (o : Op) (d : ops.Done) → takes o ≡ false → lasting d.state ≡ after_op o s → SameCalls d.state.names s.names →
    SameLists d.state s → Effect names s o d
still names s o d e = quiet names s o d (grind arith)

-- such an op changes one record, or nothing
simple : (names : Names) (s : State) (o : Op) (d : ops.Done) → takes o ≡ false → lasting d.state ≡ after_op o s → d.state.names ≡ s.names →
    SameLists d.state s → Effect names s o d
simple names s o d e lasts kept lists = still names s o d e lasts (rw kept (same_calls s.names)) lists

new_effect : (names : Names) (s : State) (v : Var) (q : Kind) (id : Id) →
    Effect names s (Op.Init v q) (record { state = ops.with_new s v q id; answer = Answer.Id id })
new_effect names s v Kind.Timer id = search (still, set_long, set_says (λ (x : Named). x.calls))
new_effect names s v each id = still names s (Op.Init v each) _ refl refl (grind (arith, set_long, set_says (λ (x : Named). x.calls))) (assumption)

asked_effect : (names : Names) (s : State) (o : Op) (a : Answer) → IsAsked o → Effect names s o (ops.says s a)
asked_effect names s o a (IsAsked.due_in v) = simple names s (Op.DueIn v) _ refl refl refl (grind arith)
asked_effect names s o a each = simple names s o _ refl refl refl (grind arith)

did_op_effect : (names : Names) (s : State) (o : Op) (d : ops.Done) → DidOp s o d → Agrees names s → Kept s → Effect names s o d
did_op_effect names s o d (DidOp.refused o' c r may) x k = refused_effect names s o' (grind arith) c r
did_op_effect names s o d (DidOp.asked o' a is) x k = asked_effect names s o' a is
did_op_effect names s o d (DidOp.made v q id e) x k = new_effect names s v q id
did_op_effect names s o d (DidOp.queued v task id e) x k =
    still names s (Op.Queue v task) _ refl refl (grind (arith, set_long, set_says (λ (n : Named). n.calls))) (assumption)
did_op_effect names s o d (DidOp.started v timeout repeat t e is stays) x k = start_effect names s v timeout repeat t x e is k
did_op_effect names s o d (DidOp.again v t e is stays begun) x k = again_effect names s v t x e is k
did_op_effect names s o d (DidOp.stopped v t e sync) x k = stop_effect names s v t x e sync k
did_op_effect names s o d (DidOp.closed v t e stays) x k = close_effect names s v t x e
did_op_effect names s o d (DidOp.watching v WatcherKind.Idle t e is off stays) x k = simple names s (Op.StartWatcher v) _ refl refl refl (assumption)
did_op_effect names s o d (DidOp.watching v each t e is off stays) x k = simple names s (Op.StartWatcher v) _ refl refl refl (assumption)
did_op_effect names s o d (DidOp.referenced o' u flag t e (IsRef.ref v)) x k = simple names s o _ refl refl refl (assumption)
did_op_effect names s o d each x k = simple names s o d refl refl refl (assumption)

pub op_effect : (names : Names) (s : State) (o : Op) → Agrees names s → Kept s → Effect names s o (do_op s o)
op_effect names s o x k = did_op_effect names s o (do_op s o) (op_did s o) x k

-- The lists of idle, prepare, check and closing handles, as the lines tell them and as the state has them: each step keeps that they agree.
use Rattle.uv_order.proofs.Names.{arith, ◌≡◌, ℕ, subst, List, ◌∷◌, ◌++◌, Bool, true, false, drop, Option, Some, None, Ok, refl, ap, sym, ◌∙◌, append-nil, append_assoc, filter-append, not, Id, Var, Code, Answer, Kind, Phase, Seen, Site, Op, Program, op_at, HandleRecord, WatcherKind, phase_of, Walk, same_id, without_id, walk_without_id, Place, State, fresh, handle, live_handle, live_request, stopped, restarted, do_op, Next, Moves, Refuses, has_id, Answered, bound, kind_as, [], AreDistinct, Watchers, those_of, with_those_of, watchers_without_id, Names, off_by, taken_off, names_by, without_ids, front_moved, moved_on, nothing_listed, facts, calls_kind, fronts, listed_by, listed_answered, listed, left_answered, left_line, left_to_call}
use Rattle.uv_model.specs.Ops as ops
use Rattle.uv_order.proofs.Lemmas.{Lists, not_listed, distinct_back, once_middle, itself, without_absent, left_of, none_off, is_held, Rests, Watches, Closes, Kept, members, on_off, open_shut, DidOp, IsAsked, IsRefusal, IsRef, op_did, op_effect, Agrees, live_held, live_bound, Did, FrontOf, FirstOf, IsStill, timed, send_both, cancel_both}
use Rattle.uv_order.proofs.IdLists.{one_off, has_back}
use Rattle.uv_order.proofs.Did.{BeginsNoList, IsUnlisted}
use Rattle.uv_order.proofs.KeptSteps.{first_is, front_fits, opened}
use Rattle.uv_order.proofs.Known.{is_answered}
use Rattle.uv_order.proofs.OpsOnce.{KnownAt}
use Rattle.uv_order.proofs.Started.{front_watches}
use Rattle.uv_order.proofs.Heard.{HeardAt}

-- ---- the lists

-- that of a section, in which idle, prepare, check or closing handles are called
abbrev pub walk_of : Phase → Watchers → Walk Id → Walk Id
walk_of Phase.Idle all closing = all.idle
walk_of Phase.Prepare all closing = all.prepare
walk_of Phase.Check all closing = all.check
walk_of Phase.Closing all closing = closing
walk_of word all closing = nothing_listed Id

-- which handles are on it
abbrev pub Belongs : Phase → HandleRecord → Type 0
Belongs Phase.Idle h = Watches Kind.Idle h
Belongs Phase.Prepare h = Watches Kind.Prepare h
Belongs Phase.Check h = Watches Kind.Check h
Belongs Phase.Closing h = Closes h
Belongs word h = ⊥

-- the lists are those that the lines tell, and so is who of them is still to be called
pub record Lined (p : Program) (past : List Seen) (all : Watchers) (closing : Walk Id) : Type 0 where
  pub list : (word : Phase) → members (walk_of word all closing) ≡ listed p past word
  pub left : (word : Phase) → (walk_of word all closing).yet ≡ left_to_call p past word

abbrev pub LinedAt : Program → List Seen → State → Type 0
LinedAt p past s = Lined p past s.watchers s.closing

-- the members of a list, none of which stands twice
belonging : (s : State) → Kept s → (word : Phase) → Lists s.arena.slots (Belongs word) (members (walk_of word s.watchers s.closing))
belonging s k Phase.Idle = let e = k.watchers WatcherKind.Idle in record { each = e.each; distinct = e.distinct }
belonging s k Phase.Prepare = let e = k.watchers WatcherKind.Prepare in record { each = e.each; distinct = e.distinct }
belonging s k Phase.Check = let e = k.watchers WatcherKind.Check in record { each = e.each; distinct = e.distinct }
belonging s k each = grind arith

-- a handle that doesn't belong there isn't on it
away : (s : State) (id : Id) (h : HandleRecord) → handle s id ≡ Some h → Kept s → (word : Phase) → (Belongs word h → ⊥) →
    has_id (members (walk_of word s.watchers s.closing)) id ≡ false
away s id h e k word apart = grind (arith, not_listed, belonging)

-- ---- lists without one

left_is : (ids off : List Id) → left_of ids off ≡ without_ids ids off
left_is ids [] = none_off ids
left_is ids (x ∷ off) = one_off ids off x ∙ ap (λ (is : List Id). without_id is x) (left_is ids off)

-- one goes off both parts
both_without : (w : Walk Id) (id : Id) → members (walk_without_id w id) ≡ without_id (members w) id
both_without w id = sym (filter-append (λ i. not (same_id i id)) w.list w.yet)

-- the one in the middle goes
middle_without : (xs ys : List Id) (id : Id) → has_id (xs ++ ys) id ≡ false → without_id (xs ++ id ∷ ys) id ≡ xs ++ ys
middle_without [] ys id h = grind (arith, itself, without_absent)
middle_without (x ∷ xs) ys id h = grind (arith, middle_without xs ys id)

-- ---- lines that tell nothing of lists

-- a line that neither takes one off a list nor puts one on it, and calls nobody
pub record Idles (p : Program) (past now : List Seen) : Type 0 where
  pub list : (word : Phase) → listed p now word ≡ listed p past word
  pub left : (word : Phase) → left_to_call p now word ≡ left_to_call p past word

lined_idle : (p : Program) (past now : List Seen) (all : Watchers) (closing : Walk Id) → Idles p past now → Lined p past all closing →
    Lined p now all closing
lined_idle p past now all closing q k = record { list = λ word. k.list word ∙ sym (q.list word); left = λ word. k.left word ∙ sym (q.left word) }

still_idles : (p : Program) (past : List Seen) (l : Seen) → IsStill (Some l) → BeginsNoList (Some l) → Idles p past (l ∷ past)
still_idles p past l each none = grind arith

-- ---- ops

-- what an op makes of the lists
abbrev listed_op : Program → List Seen → Op → Answer → Phase → List Id → List Id
listed_op p past o a word ids = listed_by p past word (record { op = o; answer = a }) ids

-- by what names are bound to, and by what handles say, as the lines tell
abbrev names_agree : Program → List Seen → State → Type 0
names_agree p past s = Agrees (names_by p past) s

-- the kind of a handle, as the lines tell it
pub kind_told : (p : Program) (past : List Seen) (s : State) (id : Id) (h : HandleRecord) → handle s id ≡ Some h → HeardAt p past s →
    (facts p past id).kind ≡ Some h.kind
kind_told p past s id h e k = let c = is_held s.arena.slots id h e in let f = k.stands id in grind arith

-- nobody is taken off an empty list
without_none : (off : List Id) → without_ids [] off ≡ []
without_none [] = refl
without_none (x ∷ off) = ap (λ (ids : List Id). without_id ids x) (without_none off)

-- who is still to be called, behind an op
op_left : (p : Program) (past : List Seen) (s : State) (o : Op) → names_agree p past s → Kept s → (word : Phase) →
    (walk_of word (do_op s o).state.watchers (do_op s o).state.closing).yet
    ≡ without_ids (walk_of word s.watchers s.closing).yet (taken_off word (names_by p past) o (do_op s o).answer)
op_left p past s o a k word = let f = op_effect (names_by p past) s o a k in grind (arith, left_is, without_none)

-- a refused op leaves a list as it was
refused_list : (p : Program) (past : List Seen) (o : Op) (c : Code) (word : Phase) (ids : List Id) → IsRefusal c →
    listed_op p past o (Answer.Code c) word ids ≡ ids
refused_list p past o c word ids r = grind arith

-- so does one that neither starts a handle nor stops it
abbrev moves_none : Op → Bool
moves_none (Op.Start v timeout repeat) = false
moves_none (Op.StartWatcher v) = false
moves_none (Op.Stop v) = false
moves_none (Op.Again v) = false
moves_none (Op.Close v) = false
moves_none o = true

moves_list : (p : Program) (past : List Seen) (o : Op) (a : Answer) (word : Phase) (ids : List Id) → moves_none o ≡ true →
    listed_op p past o a word ids ≡ ids
moves_list p past o a word ids e = grind (arith)

-- those of an op that is done with the handle of a name
record Accepted (p : Program) (past : List Seen) (s : State) (v : Var) (t : Id × HandleRecord) : Type 0 where
  bound : bound p past v ≡ Some t.0
  holds : handle s t.0 ≡ Some t.1
  kind : (facts p past t.0).kind ≡ Some t.1.kind

accepted : (p : Program) (past : List Seen) (s : State) (v : Var) (t : Id × HandleRecord) → live_handle s v ≡ Ok t → KnownAt p past s →
    HeardAt p past s → Accepted p past s v t
accepted p past s v t e w k = record {
  bound = w.binding v t.0 (live_bound s v t e);
  holds = live_held s v t e;
  kind = kind_told p past s t.0 t.1 (live_held s v t e) k;
}

-- a timer is on no such list
timer_list : (s : State) (id : Id) (h : HandleRecord) → handle s id ≡ Some h → h.kind ≡ Kind.Timer → Kept s → (word : Phase) →
    (word ≡ Phase.Closing → ⊥) → has_id (members (walk_of word s.watchers s.closing)) id ≡ false
timer_list s id h e is k word other = away s id h e k word (grind arith)

-- one that is stopped
timer_walks : (s : State) (id : Id) (h : HandleRecord) → handle s id ≡ Some h → h.kind ≡ Kind.Timer → Kept s → (word : Phase) →
    members (walk_of word (watchers_without_id s.watchers id) s.closing) ≡ members (walk_of word s.watchers s.closing)
timer_walks s id h e is k Phase.Idle =
    both_without s.watchers.idle id ∙ without_absent (members s.watchers.idle) id (timer_list s id h e is k Phase.Idle (λ f. cc f))
timer_walks s id h e is k Phase.Prepare =
    both_without s.watchers.prepare id ∙ without_absent (members s.watchers.prepare) id (timer_list s id h e is k Phase.Prepare (λ f. cc f))
timer_walks s id h e is k Phase.Check =
    both_without s.watchers.check id ∙ without_absent (members s.watchers.check) id (timer_list s id h e is k Phase.Check (λ f. cc f))
timer_walks s id h e is k each = assumption

-- `start` and `again` change the list of timers alone
abbrev starts_timer : Op → Bool
starts_timer (Op.Start v timeout repeat) = true
starts_timer (Op.Again v) = true
starts_timer o = false

timer_op : (p : Program) (past : List Seen) (s : State) (o : Op) (a : Answer) → starts_timer o ≡ true → (word : Phase) →
    listed_op p past o a word (members (walk_of word s.watchers s.closing)) ≡ members (walk_of word s.watchers s.closing)
timer_op p past s o a e word = grind arith

-- a handle is stopped
stop_list : (p : Program) (past : List Seen) (s : State) (v : Var) (t : Id × HandleRecord) → Accepted p past s v t → Kept s → (word : Phase) →
    members (walk_of word (watchers_without_id s.watchers t.0) s.closing)
    ≡ listed_op p past (Op.Stop v) (Answer.Code Code.Ok) word (members (walk_of word s.watchers s.closing))
stop_list p past s v t x k word = let b = x.bound in grind (arith, both_without, without_none)

-- one closes
close_list : (p : Program) (past : List Seen) (s : State) (v : Var) (t : Id × HandleRecord) → Accepted p past s v t → t.1.closing ≡ false → Kept s →
    (word : Phase) →
    members (walk_of word (ops.closed s t.0 t.1).watchers (ops.closed s t.0 t.1).closing)
    ≡ listed_op p past (Op.Close v) (Answer.Code Code.Ok) word (members (walk_of word s.watchers s.closing))
close_list p past s v t x stays k word = grind (arith, away, both_without, without_none)

-- an inactive handle that doesn't close is on none
nowhere : (s : State) (id : Id) (h : HandleRecord) → handle s id ≡ Some h → h.active ≡ false → h.closing ≡ false → Kept s → (word : Phase) →
    has_id (members (walk_of word s.watchers s.closing)) id ≡ false
nowhere s id h e off stays k word = away s id h e k word (grind arith)

-- one is started
watch_list : (p : Program) (past : List Seen) (s : State) (v : Var) (q : WatcherKind) (t : Id × HandleRecord) → Accepted p past s v t →
    t.1.kind ≡ kind_as q → t.1.active ≡ false → t.1.closing ≡ false → Kept s → (word : Phase) →
    members (walk_of word (ops.watcher_started s q t.0 t.1).watchers s.closing)
    ≡ listed_op p past (Op.StartWatcher v) (Answer.Code Code.Ok) word (members (walk_of word s.watchers s.closing))
watch_list p past s v q t x is off stays k word = grind arith

-- one that is active is there already
there : (s : State) (id : Id) (h : HandleRecord) → handle s id ≡ Some h → h.active ≡ true → Kept s → (word : Phase) →
    calls_kind word (Some h.kind) ≡ true → (word ≡ Phase.Closing → ⊥) → has_id (members (walk_of word s.watchers s.closing)) id ≡ true
there s id h e on k Phase.Idle c other =
    (k.watchers WatcherKind.Idle).all id (record { handle = h; holds = e; fits = record { kind = grind arith; active = on } })
there s id h e on k Phase.Prepare c other =
    (k.watchers WatcherKind.Prepare).all id (record { handle = h; holds = e; fits = record { kind = grind arith; active = on } })
there s id h e on k Phase.Check c other =
    (k.watchers WatcherKind.Check).all id (record { handle = h; holds = e; fits = record { kind = grind arith; active = on } })
there s id h e on k Phase.Closing c other = absurd (other refl)
there s id h e on k word c other = grind arith

active_list : (p : Program) (past : List Seen) (s : State) (v : Var) (t : Id × HandleRecord) → Accepted p past s v t → t.1.active ≡ true →
    Kept s → (word : Phase) → members (walk_of word s.watchers s.closing)
    ≡ listed_op p past (Op.StartWatcher v) (Answer.Code Code.Ok) word (members (walk_of word s.watchers s.closing))
active_list p past s v t x on k word = grind (arith, there)

-- one of I/O is started, which is on no list
io_list : (p : Program) (past : List Seen) (s : State) (v : Var) (t : Id × HandleRecord) → Accepted p past s v t → t.1.kind ≡ Kind.Io →
    (word : Phase) → members (walk_of word s.watchers s.closing)
    ≡ listed_op p past (Op.StartWatcher v) (Answer.Code Code.Ok) word (members (walk_of word s.watchers s.closing))
io_list p past s v t x is word = grind arith

-- a timer is started again, where it repeats
again_watchers : (u : State) (id : Id) (h : HandleRecord) → ((restarted u id h).watchers ≡ u.watchers) × ((restarted u id h).closing ≡ u.closing)
again_watchers u id h = grind arith

made_walks : (s : State) (v : Var) (q : Kind) (id : Id) (word : Phase) →
    walk_of word (ops.with_new s v q id).watchers (ops.with_new s v q id).closing ≡ walk_of word s.watchers s.closing
made_walks s v q id word = grind arith

op_list : (p : Program) (past : List Seen) (s : State) (o : Op) (d : ops.Done) → DidOp s o d → Kept s → KnownAt p past s → HeardAt p past s →
    (word : Phase) → members (walk_of word d.state.watchers d.state.closing)
    ≡ listed_op p past o d.answer word (members (walk_of word s.watchers s.closing))
op_list p past s o d (DidOp.refused o' c r may) kept w k word = sym (refused_list p past o' c word _ r)
op_list p past s o d (DidOp.asked o' a is) kept w k word = sym (moves_list p past o' a word _ (asked_moves o' is)) where
  asked_moves : (o : Op) → IsAsked o → moves_none o ≡ true
  asked_moves o a = grind arith
op_list p past s o d (DidOp.made v q id e) kept w k word = simp (made_walks, moves_list)
op_list p past s o d (DidOp.started v timeout repeat t e is stays) kept w k word = search (timer_walks, live_held, timer_op)
op_list p past s o d (DidOp.again v t e is stays begun) kept w k word =
    let same = again_watchers (stopped s t.0 t.1) t.0 t.1 in
    rw (same.0, same.1) (timer_walks s t.0 t.1 (live_held s v t e) is kept word) ∙ sym (timer_op p past s o d.answer refl word)
op_list p past s o d (DidOp.watching v q t e is off stays) kept w k word = search (watch_list, accepted)
op_list p past s o d (DidOp.io_started v t e is off stays) kept w k word = io_list p past s v t (accepted p past s v t e w k) is word
op_list p past s o d (DidOp.watches v t e on) kept w k word = active_list p past s v t (accepted p past s v t e w k) on kept word
op_list p past s o d (DidOp.stopped v t e sync) kept w k word = stop_list p past s v t (accepted p past s v t e w k) kept word
op_list p past s o d (DidOp.closed v t e stays) kept w k word = close_list p past s v t (accepted p past s v t e w k) stays kept word
op_list p past s o d (DidOp.referenced o' u flag t e (IsRef.ref v)) kept w k word = sym (moves_list p past o' d.answer word _ refl)
op_list p past s o d (DidOp.referenced o' u flag t e (IsRef.unref v)) kept w k word = sym (moves_list p past o' d.answer word _ refl)
op_list p past s o d (DidOp.loop_stopped) kept w k word = sym (moves_list p past o d.answer word _ refl)
op_list p past s o d (DidOp.time_updated) kept w k word = sym (moves_list p past o d.answer word _ refl)
op_list p past s o d (DidOp.queued v task id e) kept w k word = sym (moves_list p past o d.answer word _ refl)
op_list p past s o d (DidOp.cancelled v t live on) kept w k word = sym (moves_list p past o d.answer word _ refl)
op_list p past s o d (DidOp.repeated v n t e) kept w k word = sym (moves_list p past o d.answer word _ refl)
op_list p past s o d (DidOp.sent_to v t e is stays) kept w k word = sym (moves_list p past o d.answer word _ refl)

op_lined : (p : Program) (past : List Seen) (s : State) (o : Op) (place : Site) → op_at p place ≡ Some o → Kept s → KnownAt p past s →
    HeardAt p past s → LinedAt p past s → LinedAt p (Seen.Op place (do_op s o).answer ∷ past) (do_op s o).state
op_lined p past s o place at kept w h k = record {
  list = λ word. op_list p past s o (do_op s o) (op_did s o) kept w h word ∙ ap (listed_op p past o (do_op s o).answer word) (k.list word)
      ∙ sym (ap (λ (d : Option Answered). listed_answered p past word d (listed p past word)) (is_answered p place o (do_op s o).answer at));
  left = λ word. op_left p past s o (grind arith) kept word
      ∙ ap (λ (ids : List Id). without_ids ids (taken_off word (names_by p past) o (do_op s o).answer)) (k.left word)
      ∙ sym (ap (λ (d : Option Answered). left_answered p past word d (left_to_call p past word)) (is_answered p place o (do_op s o).answer at));
}

-- ---- calls

-- whoever is on no list isn't still to be called
none_left : (s : State) (id : Id) (word : Phase) → has_id (members (walk_of word s.watchers s.closing)) id ≡ false →
    without_id (walk_of word s.watchers s.closing).yet id ≡ (walk_of word s.watchers s.closing).yet
none_left s id word off = without_absent _ id (has_back (walk_of word s.watchers s.closing).list (walk_of word s.watchers s.closing).yet id off)

-- it is called, and the lists stay
called_off : (p : Program) (past : List Seen) (all : Watchers) (closing : Walk Id) (v : Var) (id : Id) →
    ((word : Phase) → without_id (walk_of word all closing).yet id ≡ (walk_of word all closing).yet) → Lined p past all closing →
    Lined p (Seen.Call v id ∷ past) all closing
called_off p past all closing v id off k = grind arith

call_lined : (p : Program) (past : List Seen) (s : State) (v : Var) (id : Id) →
    ((word : Phase) → has_id (members (walk_of word s.watchers s.closing)) id ≡ false) → LinedAt p past s → LinedAt p (Seen.Call v id ∷ past) s
call_lined p past s v id off k = called_off p past s.watchers s.closing v id (λ word. none_left s id word (off word)) k

-- handles of this kind stand on such a list where they are active
abbrev has_list : Kind → Bool
has_list Kind.Idle = true
has_list Kind.Prepare = true
has_list Kind.Check = true
has_list q = false

-- one of another kind is on none
other_kind : (s : State) (id : Id) (h : HandleRecord) (q : Kind) → handle s id ≡ Some h → h.active ≡ true → h.kind ≡ q → has_list q ≡ false →
    Kept s → (word : Phase) → has_id (members (walk_of word s.watchers s.closing)) id ≡ false
other_kind s id h q e on is none k word = away s id h e k word (apart word) where
  apart : (x : Phase) → Belongs x h → ⊥
  apart Phase.Closing b = on_off h on ((k.sound id h e).shut b)
  apart x b = grind arith

-- a timer is called, from the ready list or straight from the order of timers
rests_off : (s : State) (t : Id × HandleRecord) → FrontOf s s.ready t → Kept s → (word : Phase) →
    has_id (members (walk_of word s.watchers s.closing)) t.0 ≡ false
rests_off s t f k word =
    let rests : Rests t.1 = front_fits s Rests [] s.ready t k.ready.each f in
    nowhere s t.0 t.1 f.holds rests.inactive rests.stays k word

fired_lined : (p : Program) (past : List Seen) (s : State) (t : Id × HandleRecord) → FrontOf s s.ready t → Kept s → LinedAt p past s →
    LinedAt p (Seen.Call t.1.name t.0 ∷ past) (restarted (record s { ready = drop 1 s.ready }) t.0 t.1)
fired_lined p past s t f kept k =
    let same = again_watchers (record s { ready = drop 1 s.ready }) t.0 t.1 in
    rw (same.0, same.1) (call_lined p past s t.1.name t.0 (rests_off s t f kept) k)

-- a stopped timer leaves the lists as they were
timer_left : (s : State) (id : Id) (word : Phase) → has_id (members (walk_of word s.watchers s.closing)) id ≡ false →
    (walk_of word (watchers_without_id s.watchers id) s.closing).yet ≡ (walk_of word s.watchers s.closing).yet
timer_left s id word off = let e = none_left s id word off in grind arith

timer_lined : (p : Program) (past : List Seen) (s : State) (id : Id) (h : HandleRecord) → handle s id ≡ Some h → h.kind ≡ Kind.Timer →
    h.active ≡ true → Kept s → LinedAt p past s → Lined p past (watchers_without_id s.watchers id) s.closing
timer_lined p past s id h e is on kept k = record {
  list = λ word. timer_walks s id h e is kept word ∙ k.list word;
  left = λ word. timer_left s id word (other_kind s id h Kind.Timer e on is refl kept word) ∙ k.left word;
}

due_lined : (p : Program) (past : List Seen) (s : State) (t : Id × HandleRecord) → FirstOf s s.timers t → Kept s → LinedAt p past s →
    LinedAt p (Seen.Call t.1.name t.0 ∷ past) (restarted (stopped s t.0 t.1) t.0 t.1)
due_lined p past s t f kept k =
    let set = (first_is s t f kept).set in
    let same = again_watchers (stopped s t.0 t.1) t.0 t.1 in
    let off = other_kind s t.0 t.1 Kind.Timer f.holds set.active set.kind refl kept in
    rw (same.0, same.1) (search (called_off, none_left, timer_left, timer_lined))

-- a watcher is called, which goes to the end of its list
first_left : (w : Walk Id) (id : Id) → w.yet ≡ id ∷ drop 1 w.yet → AreDistinct (members w) → drop 1 w.yet ≡ without_id w.yet id
first_left w id are distinct = grind (arith, distinct_back, itself, without_absent)

moved_list : (w : Walk Id) (id : Id) → w.yet ≡ id ∷ drop 1 w.yet → members (moved_on w id (drop 1 w.yet)) ≡ members w
moved_list w id are = grind (arith, append_assoc)

walked_lined : (p : Program) (past : List Seen) (s : State) (q : WatcherKind) (t : Id × HandleRecord) → FrontOf s (those_of q s.watchers).yet t →
    has_list (kind_as q) ≡ true → Kept s → LinedAt p past s →
    LinedAt p (Seen.Call t.1.name t.0 ∷ past) (front_moved s q t.0)
walked_lined p past s q t f own kept k = record { list = λ word. list word q f.are; left = λ word. left word q f.are (watches q f) own } where
  more : (q : WatcherKind) → Watchers
  more q = (front_moved s q t.0).watchers

  list : (word : Phase) (q : WatcherKind) → (those_of q s.watchers).yet ≡ t.0 ∷ drop 1 (those_of q s.watchers).yet →
      members (walk_of word (more q) s.closing) ≡ listed p past word
  list word q are = let is = k.list word in let moved = moved_list (those_of q s.watchers) t.0 are in grind arith

  watches : (q : WatcherKind) → FrontOf s (those_of q s.watchers).yet t → Watches (kind_as q) t.1
  watches q f = front_watches s q t f kept

  others : (word : Phase) → (Belongs word t.1 → ⊥) → (walk_of word s.watchers s.closing).yet ≡ without_id (left_to_call p past word) t.0
  others word apart = sym (none_left s t.0 word (away s t.0 t.1 f.holds kept word apart))
      ∙ ap (λ (ids : List Id). without_id ids t.0) (k.left word)

  own_left : (word : Phase) → (walk_of word s.watchers s.closing).yet ≡ t.0 ∷ drop 1 (walk_of word s.watchers s.closing).yet →
      drop 1 (walk_of word s.watchers s.closing).yet ≡ without_id (left_to_call p past word) t.0
  own_left word are = grind (arith, first_left, belonging)

  left : (word : Phase) (q : WatcherKind) → (those_of q s.watchers).yet ≡ t.0 ∷ drop 1 (those_of q s.watchers).yet → Watches (kind_as q) t.1 →
      has_list (kind_as q) ≡ true → (walk_of word (more q) s.closing).yet ≡ without_id (left_to_call p past word) t.0
  left Phase.Idle WatcherKind.Idle are w own = own_left Phase.Idle are
  left Phase.Prepare WatcherKind.Prepare are w own = own_left Phase.Prepare are
  left Phase.Check WatcherKind.Check are w own = own_left Phase.Check are
  left Phase.Closing q are w own = others Phase.Closing
      (λ shut. open_shut t.1 shut (opened t.1 w.active (kept.sound t.0 t.1 f.holds)))
  left word q are w own = let e = others word in grind arith

-- a section begins, which has its whole list to call
begun_lined : (p : Program) (past : List Seen) (s : State) (q : WatcherKind) → (those_of q s.watchers).yet ≡ [] → LinedAt p past s →
    Lined p (Seen.Section (phase_of q) ∷ past) (with_those_of q (record { list = []; yet = (those_of q s.watchers).list }) s.watchers) s.closing
begun_lined p past s q none k = grind (arith, append-nil)

-- that of the close callbacks
closing_lined : (p : Program) (past : List Seen) (s : State) → s.closing.yet ≡ [] → LinedAt p past s →
    Lined p (Seen.Section Phase.Closing ∷ past) s.watchers (record { list = []; yet = s.closing.list })
closing_lined p past s none k = grind (arith, append-nil)

-- the list of async handles changes
async_lined : (p : Program) (past : List Seen) (s : State) (w : Walk Id) → LinedAt p past s →
    Lined p past (with_those_of WatcherKind.Async w s.watchers) s.closing
async_lined p past s w k = grind arith

-- and one is called
woken_lined : (p : Program) (past : List Seen) (s : State) (t : Id × HandleRecord) (w : Walk Id) → FrontOf s s.watchers.async.yet t → Kept s →
    LinedAt p past s → Lined p (Seen.Call t.1.name t.0 ∷ past) (with_those_of WatcherKind.Async w s.watchers) s.closing
woken_lined p past s t w f kept k =
    let watches = front_watches s WatcherKind.Async t f kept in
    let off = other_kind s t.0 t.1 Kind.Async f.holds watches.active watches.kind refl kept in
    async_lined p (Seen.Call t.1.name t.0 ∷ past) s w (call_lined p past s t.1.name t.0 off k)

-- a close callback begins, and its handle leaves the list
closed_lined : (p : Program) (past : List Seen) (s : State) (t : Id × HandleRecord) → FrontOf s s.closing.yet t → Kept s → LinedAt p past s →
    Lined p (Seen.Closed t.1.name t.0 ∷ past) s.watchers (record s.closing { yet = drop 1 s.closing.yet })
closed_lined p past s t f kept k = record { list = list; left = left } where
  shut : t.1.closing ≡ true
  shut = front_fits s Closes s.closing.list s.closing.yet t kept.closing.each f

  listed_now : members s.closing ≡ s.closing.list ++ t.0 ∷ drop 1 s.closing.yet
  listed_now = ap (λ (ids : List Id). s.closing.list ++ ids) f.are

  gone : s.closing.list ++ drop 1 s.closing.yet ≡ without_id (members s.closing) t.0
  gone = sym (grind (arith, middle_without, once_middle))

  list : (word : Phase) → members (walk_of word s.watchers (record s.closing { yet = drop 1 s.closing.yet }))
      ≡ listed p (Seen.Closed t.1.name t.0 ∷ past) word
  list Phase.Closing = gone ∙ ap (λ (ids : List Id). without_id ids t.0) (k.list Phase.Closing)
  list word = k.list word

  others : (word : Phase) → (Belongs word t.1 → ⊥) → (walk_of word s.watchers s.closing).yet ≡ without_id (left_to_call p past word) t.0
  others word apart = grind (arith, none_left, away)

  left : (word : Phase) → (walk_of word s.watchers (record s.closing { yet = drop 1 s.closing.yet })).yet
      ≡ left_to_call p (Seen.Closed t.1.name t.0 ∷ past) word
  left Phase.Closing = first_left s.closing t.0 f.are kept.closing.distinct ∙ ap (λ (ids : List Id). without_id ids t.0) (k.left Phase.Closing)
  left word = let off = (kept.sound t.0 t.1 f.holds).shut shut in let e = others word in grind arith

-- ---- steps

abbrev pub LinedFollows : Program → List Seen → Next → Type 0
LinedFollows p past (Moves t (Some l)) = LinedAt p (l ∷ past) t
LinedFollows p past (Moves t None) = LinedAt p past t
LinedFollows p past (Refuses why) = Unit {0}

still_lined : (p : Program) (past : List Seen) (s : State) (x : Place) (time clock : ℕ) (stop idled : Bool) (l : Option Seen) → IsStill l →
    BeginsNoList l → LinedAt p past s → LinedFollows p past (Moves (timed s x time clock stop idled) l)
still_lined p past s x time clock stop idled None q none k = k
still_lined p past s x time clock stop idled (Some l) q none k = search (lined_idle, still_idles)

sent_lined : (p : Program) (past : List Seen) (s : State) (v : Var) → LinedAt p past s →
    LinedFollows p past (Moves (ops.send s (live_handle s v)).state (Some (Seen.Send v (ops.send s (live_handle s v)).code)))
sent_lined p past s v k = send_both s v (λ (c : ops.Coded). LinedFollows p past (Moves c.state (Some (Seen.Send v c.code))))
    (λ c r. assumption k) (λ t e is. assumption k)

cancelled_lined : (p : Program) (past : List Seen) (s : State) (v : Var) → LinedAt p past s →
    LinedFollows p past (Moves (ops.cancel s (live_request s v)).state (Some (Seen.Cancel v (ops.cancel s (live_request s v)).answer)))
cancelled_lined p past s v k = cancel_both s v (λ (d : ops.Done). LinedFollows p past (Moves d.state (Some (Seen.Cancel v d.answer))))
    (λ c r. assumption k) (λ t live on. assumption k)

pub did_lined : (p : Program) (past : List Seen) (s : State) (n : Next) → Did p s n → Kept s → KnownAt p past s → HeardAt p past s →
    LinedAt p past s → LinedFollows p past n
did_lined p past s n (Did.still x time clock stop idled l q none) kept w h k = still_lined p past s x time clock stop idled l q none k
did_lined p past s n (Did.op x at o e) kept w h k = op_lined p past s o at e kept w h k
did_lined p past s n (Did.begun run q e) kept w h k = begun_lined p past s q e k
did_lined p past s n (Did.begun_closing run e) kept w h k = closing_lined p past s e k
did_lined p past s n (Did.fired run t f) kept w h k = fired_lined p past s t f kept k
did_lined p past s n (Did.called_due run t f) kept w h k = due_lined p past s t f kept k
did_lined p past s n (Did.walked run WatcherKind.Idle t sync f) kept w h k = walked_lined p past s WatcherKind.Idle t f refl kept k
did_lined p past s n (Did.walked run WatcherKind.Prepare t sync f) kept w h k = walked_lined p past s WatcherKind.Prepare t f refl kept k
did_lined p past s n (Did.walked run WatcherKind.Check t sync f) kept w h k = walked_lined p past s WatcherKind.Check t f refl kept k
did_lined p past s n (Did.walked run WatcherKind.Async t sync f) kept w h k = absurd sync
did_lined p past s n (Did.woken run t f on) kept w h k = woken_lined p past s t _ f kept k
did_lined p past s n (Did.closed run t f) kept w h k = closed_lined p past s t f kept k
did_lined p past s n (Did.sent v) kept w h k = sent_lined p past s v k
did_lined p past s n (Did.cancelled v) kept w h k = cancelled_lined p past s v k
did_lined p past s n each kept w h k = grind arith

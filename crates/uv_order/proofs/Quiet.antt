-- The steps that change no request: those of handles, of the loop's sections except the requests that are done, and of the clock.
use Rattle.uv_order.proofs.Names.{◌≡◌, List, Option, Some, None, drop, refl, Id, Var, Kind, HandleRecord, Slot, Walk, inited, activated, referenced_as, repeating, taken, next_free, Op, Program, arena_size, Content, State, handle, stopped, restarted, do_op, Next, Moves, Refuses, WatcherKind}
use Rattle.uv_records.specs.Handles as records
use Rattle.uv_model.specs.Ops as ops
use Rattle.uv_order.proofs.Contents.{Turns}
use Rattle.uv_order.proofs.Holding.{put, is_held, Touches, still_touches, start_touches, again_touches}
use Rattle.uv_order.proofs.Asked.{freed_turns}
use Rattle.uv_order.proofs.Works.{SameRequests, same_requests, same_put}
use Rattle.uv_order.proofs.OpCases.{DidOp, op_did, live_held}
use Rattle.uv_order.proofs.Keeping.{Kept, fills}
use Rattle.uv_order.proofs.Did.{Did}

-- no request changes, and no list of requests
pub record IsSame (now : List (Slot Content)) (waiting : List Id) (running : List (Option Id)) (done : Walk Id) (was : List (Slot Content))
    (waited : List Id) (ran : List (Option Id)) (were : Walk Id) : Type 0 where
  pub requests : SameRequests now was
  pub waiting_is : waiting ≡ waited
  pub running_is : running ≡ ran
  pub done_is : done ≡ were

-- from one state to another
abbrev pub SameWork : State → State → Type 0
SameWork s t = IsSame t.arena.slots t.waiting t.running t.done s.arena.slots s.waiting s.running s.done

abbrev pub SameSlots : State → List (Slot Content) → Type 0
SameSlots s slots = IsSame slots s.waiting s.running s.done s.arena.slots s.waiting s.running s.done

pub same : (s : State) → SameSlots s s.arena.slots
same s = record { requests = λ i. refl; waiting_is = refl; running_is = refl; done_is = refl }

by_slots : (s : State) (slots : List (Slot Content)) → SameRequests slots s.arena.slots → SameSlots s slots
by_slots s slots f = record { requests = f; waiting_is = refl; running_is = refl; done_is = refl }

-- ---- handles

-- the record of a handle changes
changed : (s : State) (t : Id × HandleRecord) (x : HandleRecord) → handle s t.0 ≡ Some t.1 → SameSlots s (put s.arena.slots t.0 x)
changed s t x e = by_slots s (put s.arena.slots t.0 x) (same_put s.arena.slots t.0 t.1 x e)

touched : (s u : State) (id : Id) (h x : HandleRecord) → Touches s id h x u → SameWork s u
touched s u id h x t = record {
  requests = rw t.arena (same_put s.arena.slots id h x t.holds);
  waiting_is = t.waiting;
  running_is = t.running;
  done_is = t.done;
}

-- a timer is stopped, and started again where it repeats
again_same : (s : State) (t : Id × HandleRecord) → handle s t.0 ≡ Some t.1 → SameWork s (restarted (stopped s t.0 t.1) t.0 t.1)
again_same s t e = touched s _ t.0 t.1 _ (again_touches s (stopped s t.0 t.1) t.0 t.1 (records.stopped t.1) (assumption e))

-- a slot is taken for a handle
new_same : (s : State) (v : Var) (q : Kind) (id : Id) → next_free s.arena ≡ Some id → Kept s → SameWork s (ops.with_new s v q id)
new_same s v q id e kept = by q (by_slots s _ (same_requests s.arena.slots _ id _ _ turns refl refl)) where
  turns : Turns s.arena.slots (taken id (Content.Handle (inited v q)) s.arena).slots id None (Some (Content.Handle (inited v q)))
  turns = (fills s.arena s.arena.free id (Content.Handle (inited v q)) refl kept.free e).0

  by : (x : Kind) → SameSlots s (taken id (Content.Handle (inited v x)) s.arena).slots → SameWork s (ops.with_new s v x id)
  by Kind.Timer w = w
  by each w = w

-- ---- the ops

-- an op that isn't one of requests
abbrev pub IsOfHandles : Op → Type 0
IsOfHandles (Op.Queue v task) = ⊥
IsOfHandles (Op.Cancel v) = ⊥
IsOfHandles o = Unit {0}

did_op_same : (s : State) (o : Op) (d : ops.Done) → DidOp s o d → IsOfHandles o → Kept s → SameWork s d.state
did_op_same s o d (DidOp.made v q id e) h kept = new_same s v q id e kept
did_op_same s o d (DidOp.queued v task id e) h kept = absurd h
did_op_same s o d (DidOp.cancelled v t live on) h kept = absurd h
did_op_same s o d (DidOp.started v timeout repeat t e is stays) h kept = touched s d.state t.0 t.1 _
    (start_touches s (stopped s t.0 t.1) t.0 t.1 (records.stopped t.1) timeout repeat (assumption (live_held s v t e)))
did_op_same s o d (DidOp.again v t e is stays begun) h kept = again_same s t (live_held s v t e)
did_op_same s o d (DidOp.watching v WatcherKind.Idle t e is off stays) h kept = changed s t (activated t.1) (live_held s v t e)
did_op_same s o d (DidOp.watching v each t e is off stays) h kept = changed s t (activated t.1) (live_held s v t e)
did_op_same s o d (DidOp.io_started v t e is off stays) h kept = changed s t (activated t.1) (live_held s v t e)
did_op_same s o d (DidOp.stopped v t e sync) h kept = changed s t (records.stopped t.1) (live_held s v t e)
did_op_same s o d (DidOp.closed v t e stays) h kept = changed s t (records.closed t.1) (live_held s v t e)
did_op_same s o d (DidOp.repeated v n t e) h kept = changed s t (repeating n t.1) (live_held s v t e)
did_op_same s o d (DidOp.referenced o' v flag t e is) h kept = changed s t (referenced_as flag t.1) (live_held s v t e)
did_op_same s o d (DidOp.sent_to v t e is stays) h kept = changed s t (records.sent t.1) (live_held s v t e)
did_op_same s o d each h kept = same s

pub op_same : (s : State) (o : Op) → IsOfHandles o → Kept s → SameWork s (do_op s o).state
op_same s o h kept = did_op_same s o (do_op s o) (op_did s o) h kept

-- ---- the rows

abbrev pub KeepsWork : State → Next → Type 0
KeepsWork s (Moves t seen) = SameWork s t
KeepsWork s (Refuses why) = Unit {0}

-- the step is none of requests, nor of a script
abbrev pub IsOfLoop : {p : Program} {s : State} {n : Next} → Did p s n → Type 0
IsOfLoop (Did.op x at o e) = ⊥
IsOfLoop (Did.begun_done run time e) = ⊥
IsOfLoop (Did.ended run t f) = ⊥
IsOfLoop (Did.taken n t f) = ⊥
IsOfLoop (Did.finished n t f) = ⊥
IsOfLoop (Did.cancelled v) = ⊥
IsOfLoop d = Unit {0}

pub did_same : (p : Program) (s : State) (n : Next) (d : Did p s n) → IsOfLoop d → Kept s → KeepsWork s n
did_same p s n (Did.refused why) h kept = tt
did_same p s n (Did.still x time clock stop idled l q none) h kept = same s
did_same p s n (Did.begun run WatcherKind.Idle e) h kept = same s
did_same p s n (Did.begun run each e) h kept = same s
did_same p s n (Did.begun_closing run e) h kept = same s
did_same p s n (Did.collected run part t f) h kept = changed s t (records.stopped t.1) f.holds
did_same p s n (Did.fired run t f) h kept = touched s _ t.0 t.1 _
    (again_touches s (record s { ready = drop 1 s.ready }) t.0 t.1 t.1 (still_touches s (drop 1 s.ready) t.0 t.1 f.holds))
did_same p s n (Did.called_due run t f) h kept = again_same s t f.holds
did_same p s n (Did.answered run time v t e is on) h kept = same s
did_same p s n (Did.walked run WatcherKind.Idle t sync f) h kept = same s
did_same p s n (Did.walked run each t sync f) h kept = same s
did_same p s n (Did.passed run t f off) h kept = same s
did_same p s n (Did.woken run t f on) h kept = changed s t (records.woken t.1) f.holds
did_same p s n (Did.closed run t f) h kept = by_slots s _ (same_requests s.arena.slots _ t.0 _ _
    (freed_turns (arena_size p).last_generation s.arena t.0 (Content.Handle t.1) (is_held s.arena.slots t.0 t.1 f.holds)) refl refl)
did_same p s n (Did.sent v) h kept = op_same s (Op.Send v) tt kept
did_same p s n each h kept = absurd h

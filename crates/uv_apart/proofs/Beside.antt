-- What a worker takes beside a tick, what another worker finishes, and a callback of I/O.
use Rattle.uv_apart.proofs.Names.{◌≡◌, ℕ, ◌+◌, ◌==◌, List, ◌∷◌, length, drop, Bool, true, false, Option, Some, None, Result, Ok, Err, refl, ap, sym, subst, ◌∙◌, arith, nat_le, nat_lt, slice_get, slice_set, if◌then◌else◌, eq-eqb, eqb-true, elements, set_comm, Id, Var, Event, Take, Finish, Send, Io, Tick, Code, Range, Seen, Program, HandleRecord, Slot, send_refusal, held, Content, Request, Run, handle_in, request_in, found_or, state_of, LATEST, Coded, ended, send, State, front_request, live_handle, request, with_handle, with_id, Moves, Refuses, io_run, io_handle, call_io, Crosses, state_map}
use Rattle.uv_ids.specs.declared.code.Code.TheVariants.{Ok as Success}
use Rattle.uv_ids.specs.declared.seen.Seen.TheVariants as seen
use Rattle.uv_records.specs.Handles as records
use Rattle.uv_work.specs.declared.content.Content.TheVariants as content
use Rattle.uv_model.specs.Next.{next}
use Rattle.uv_apart.proofs.Cases.{by_test}
use Rattle.uv_apart.proofs.Changed.{Change, changed, live_held, send_changed}
use Rattle.uv_apart.proofs.Held.{asked, get_set_other, request_there, same_request}
use Rattle.uv_apart.proofs.Kept.{behind, moved, moved_hides, moved_leaves, next_ticks}
use Rattle.uv_apart.proofs.Pool.{front_stays, Takes, next_takes, take_next, first, Finishes, next_finishes, finish_next, finished}

-- ---- a request whose slot, or another one, is set

-- some request of the same name is held
record HoldsNamed (slots : List (Slot Content)) (i : Id) (q : Request) : Type 0 where
  request : Request
  holds : request_in (held slots i) ≡ Some request
  name : request.name ≡ q.name

held_set : (slots : List (Slot Content)) (i id : Id) (q r x : Request) → slice_get slots i.slot ≡ Some (asked i q) →
    slice_get slots id.slot ≡ Some (asked id r) → i.slot ≡ id.slot → request_in (held (slice_set slots id.slot (asked id x)) i) ≡ Some x
held_set slots i id q r x e f g = grind (arith, elements)

still_named : (slots : List (Slot Content)) (id i : Id) (r x q : Request) → request_in (held slots id) ≡ Some r → x.name ≡ r.name →
    request_in (held slots i) ≡ Some q → HoldsNamed (slice_set slots id.slot (asked id x)) i q
still_named slots id i r x q e f g = by (i.slot == id.slot) refl where
  by : (b : Bool) → (i.slot == id.slot) ≡ b → HoldsNamed (slice_set slots id.slot (asked id x)) i q
  by false h = record {
    request = q;
    holds = rw (get_set_other slots id.slot i.slot (asked id x) (λ k. cc (h, eq-eqb i.slot id.slot k))) g;
    name = refl;
  }
  by true h =
      let there = request_there slots id r e in
      let here = request_there slots i q g in
      let slot = eqb-true i.slot id.slot h in
      record {
        request = x;
        holds = held_set slots i id q r x here there slot;
        name = f ∙ ap (λ (y : Request). y.name) (sym (same_request slots i id q r here there slot));
      }

-- ---- what leaves who waits, who runs and the slots

record LeavesPool (s b : State) : Type 0 where
  waiting : b.waiting ≡ s.waiting
  running : b.running ≡ s.running
  arena : b.arena ≡ s.arena

io_leaves : (p : Program) (s b : State) (v : Var) (m : Option Seen) → next p s (Io v) ≡ Moves b m → LeavesPool s b
unfolding next
io_leaves p s b v m e = by (nat_lt v.0 (length s.names)) (io_run p s s.place) (io_handle (live_handle s v)) e where
  by : (x : Bool) (run : Option Run) (id : Option Id) → (if x then call_io p s v run id else Refuses Range) ≡ Moves b m → LeavesPool s b
  by x run id e = grind arith

-- ---- what a send leaves

record LeavesRequests (s b : State) : Type 0 where
  waiting : b.waiting ≡ s.waiting
  running : b.running ≡ s.running
  requests : (id : Id) (q : Request) → request s id ≡ Some q → request b id ≡ Some q

-- where a handle's record is set, a request stays
request_stays : (slots : List (Slot Content)) (id i : Id) (h g : HandleRecord) (q : Request) → handle_in (held slots id) ≡ Some h →
    request_in (held slots i) ≡ Some q →
    request_in (held (slice_set slots id.slot (record { generation = id.generation; content = Some (content.Handle g) })) i) ≡ Some q
request_stays slots id i h g q e f = grind (arith, elements)

sends : (p : Program) (s b : State) (v : Var) (m : Option Seen) → next p s (Send v) ≡ Moves b m → LeavesRequests s b
unfolding next
sends p s b v m e = by (nat_lt v.0 (length s.names)) (live_handle s v) refl e where
  set : (t : Id × HandleRecord) → live_handle s v ≡ Ok t → (o : Option Code) →
      LeavesRequests s (found_or {B = Coded} o (λ code. record { state = s; code = code })
      (record { state = with_handle s t.0 (records.sent t.1); code = Success })).state
  set t live (Some code) = record { waiting = refl; running = refl; requests = λ id q h. h }
  set t live None = search (request_stays, live_held)

  of : (x : Result (Id × HandleRecord) Code) → live_handle s v ≡ x → LeavesRequests s (send s x).state
  of (Err code) live = record { waiting = refl; running = refl; requests = λ id q h. h }
  of (Ok t) live = set t live (send_refusal t.1)

  by : (c : Bool) (x : Result (Id × HandleRecord) Code) → live_handle s v ≡ x →
      (if c then Moves (send s x).state (Some (seen.Send v (send s x).code)) else Refuses Range) ≡ Moves b m → LeavesRequests s b
  by false x live g = cc g
  by true x live g = subst (LeavesRequests s) (ap (state_of s) g) (of x live)

-- ---- a worker takes a request

module _ (p : Program) (s a : State) (k : ℕ) (l : Option Seen) (t : Takes s k a l) where
  abbrev taking : Change
  taking = moved (λ n. n) (drop 1) (λ rs. slice_set rs k (Some t.id))

  -- the worker takes the request from a state in which it waits first, under the same name
  take_after : (b : State) (q : Request) → slice_get b.running k ≡ Some None → front_request b b.waiting ≡ Some (t.id, q) →
      q.name ≡ t.request.name → next p b (Take k) ≡ Moves (changed taking b) l
  take_after b q idle front name = take_next p b k t.id q idle front
      ∙ ap (λ (v : Var). Moves (changed taking b) (Some (seen.Take k v t.id))) name
      ∙ ap (λ (o : Option Seen). Moves (changed taking b) o) (sym t.says)

  left_after : (b : State) → LeavesPool s b → next p b (Take k) ≡ Moves (changed taking b) l
  left_after b same =
      let waiting = same.waiting in
      let arena = same.arena in
      let front : front_request b b.waiting ≡ front_request s s.waiting = λ i. front_request (record s { arena = arena i }) (waiting i) in
      take_after b t.request (ap (λ (rs : List (Option Id)). slice_get rs k) same.running ∙ t.idle) (front ∙ t.front) refl

  -- an event that goes alike behind the take, and behind which the take goes as before
  crosses : (f : Event) (b : State) (m : Option Seen) → next p s f ≡ Moves b m → next p b (Take k) ≡ Moves (changed taking b) l →
      next p (changed taking s) f ≡ state_map (changed taking) (next p s f) → Crosses p (Take k) f a b l m
  crosses f b m e after same = record { state = changed taking b; one_after = after; other_after = behind taking p s b a f m t.is same e }

  tick_changed : (ms : ℕ) → next p (changed taking s) (Tick ms) ≡ state_map (changed taking) (next p s (Tick ms))
  unfolding next
  tick_changed ms = by_test (state_map (changed taking)) (nat_le (s.clock + ms) LATEST) refl refl

  io_changed : (v : Var) → next p (changed taking s) (Io v) ≡ state_map (changed taking) (next p s (Io v))
  unfolding next
  io_changed v = by_test (state_map (changed taking)) (nat_lt v.0 (length s.names)) (by (io_run p s s.place) (io_handle (live_handle s v))) refl where
    by : (run : Option Run) (id : Option Id) → call_io p (changed taking s) v run id ≡ state_map (changed taking) (call_io p s v run id)
    by None id = refl
    by (Some run) None = refl
    by (Some run) (Some id) = refl

  -- an async handle that is sent to

  send_same : (v : Var) → next p (changed taking s) (Send v) ≡ state_map (changed taking) (next p s (Send v))
  unfolding next
  send_same v = by_test (state_map (changed taking)) (nat_lt v.0 (length s.names))
      (ap (λ (x : Coded). Moves x.state (Some (seen.Send v x.code)))
      (send_changed taking (moved_leaves (λ n. n) (drop 1) (λ rs. slice_set rs k (Some t.id))) s
      (moved_hides (λ n. n) (drop 1) (λ rs. slice_set rs k (Some t.id)) s
      (λ i. front_stays s.waiting (drop 1 s.waiting) t.id i (first s t.id t.request t.front).waiting)) v))
      refl

  take_sent : (b : State) (v : Var) (m : Option Seen) → next p s (Send v) ≡ Moves b m → next p b (Take k) ≡ Moves (changed taking b) l
  take_sent b v m e =
      let it = first s t.id t.request t.front in
      let sent = sends p s b v m e in
      let waiting : b.waiting ≡ t.id ∷ drop 1 s.waiting = sent.waiting ∙ it.waiting in
      let still : request b t.id ≡ Some t.request = sent.requests t.id t.request it.holds in
      take_after b t.request (ap (λ (rs : List (Option Id)). slice_get rs k) sent.running ∙ t.idle)
      (ap (front_request b) waiting ∙ ap (with_id t.id) still) refl

  -- another worker, which runs a request

  module _ (b : State) (j : ℕ) (m : Option Seen) (u : Finishes s j b m) where
    others : k ≡ j → ⊥
    others e = cc (t.idle, u.runs, e)

    finish_changed : next p (changed taking s) (Finish j) ≡ state_map (changed taking) (next p s (Finish j))
    finish_changed = finish_next p (changed taking s) j u.id u.request
        (get_set_other s.running k j (Some t.id) (λ e. others (sym e)) ∙ u.runs) u.holds
        ∙ ap (λ (rs : List (Option Id)). Moves (ended (record (changed taking s) { running = rs }) u.id u.request (finished u.request).outcome)
        (Some (seen.Finish j u.request.name u.id))) (set_comm s.running k j (Some t.id) None others)
        ∙ ap (state_map (changed taking)) (sym (finish_next p s j u.id u.request u.runs u.holds))

    take_finished : next p b (Take k) ≡ Moves (changed taking b) l
    take_finished =
        let it = first s t.id t.request t.front in
        let still = still_named s.arena.slots u.id t.id u.request (finished u.request) t.request u.holds refl it.holds in
        let finish = ended (record s { running = slice_set s.running j None }) u.id u.request (finished u.request).outcome in
        let front : front_request finish finish.waiting ≡ Some (t.id, still.request) =
        ap (front_request finish) it.waiting ∙ ap (with_id t.id) still.holds in
        take_after b still.request
        (ap (λ (x : State). slice_get x.running k) u.is ∙ get_set_other s.running j k None others ∙ t.idle)
        (ap (λ (x : State). front_request x x.waiting) u.is ∙ front)
        still.name

-- ---- the laws

pub takes_tick : (p : Program) (s a b : State) (k ms : ℕ) (l m : Option Seen) → next p s (Take k) ≡ Moves a l → next p s (Tick ms) ≡ Moves b m →
    Crosses p (Take k) (Tick ms) a b l m
takes_tick p s a b k ms l m e f =
    let t = next_takes p s k a l e in
    let left = subst (LeavesPool s) (sym (next_ticks p s ms b m f).is) (record { waiting = refl; running = refl; arena = refl }) in
    crosses p s a k l t (Tick ms) b m f (left_after p s a k l t b left) (tick_changed p s a k l t ms)

pub takes_finish : (p : Program) (s a b : State) (k j : ℕ) (l m : Option Seen) → next p s (Take k) ≡ Moves a l → next p s (Finish j) ≡ Moves b m →
    Crosses p (Take k) (Finish j) a b l m
takes_finish p s a b k j l m e f =
    let t = next_takes p s k a l e in
    let u = next_finishes p s j b m f in
    crosses p s a k l t (Finish j) b m f (take_finished p s a k l t b j m u) (finish_changed p s a k l t b j m u)

pub takes_io : (p : Program) (s a b : State) (k : ℕ) (v : Var) (l m : Option Seen) → next p s (Take k) ≡ Moves a l → next p s (Io v) ≡ Moves b m →
    Crosses p (Take k) (Io v) a b l m
takes_io p s a b k v l m e f =
    let t = next_takes p s k a l e in
    crosses p s a k l t (Io v) b m f (left_after p s a k l t b (io_leaves p s b v m f)) (io_changed p s a k l t v)

pub takes_send : (p : Program) (s a b : State) (k : ℕ) (v : Var) (l m : Option Seen) → next p s (Take k) ≡ Moves a l → next p s (Send v) ≡ Moves b m →
    Crosses p (Take k) (Send v) a b l m
takes_send p s a b k v l m e f =
    let t = next_takes p s k a l e in
    crosses p s a k l t (Send v) b m f (take_sent p s a k l t b v m f) (send_same p s a k l t v)

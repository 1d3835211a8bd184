-- A request is queued, and a worker takes it: it is open.
use Rattle.uv_requests.proofs.Names.{◌≡◌, ℕ, ◌+◌, ◌<◌, true, false, [], ◌∷◌, ◌++◌, map, slice_get, Option, Some, None, option_and_then, refl, sym, ap, ◌∙◌, subst, inl, inr, arith, eqb_tells, length-set, slice_get_within, Id, Waiting, Ended, EndedYet, ChainPlace, InsertUndo, Image, members, on_list, IsSound, insert_undone, push_undone, CanUndoInsert, CanUndoPush, IsFirst, IsInserted, IsPushed, IsUnlinked, set_back, set_here, set_there, Task, Outcome, Open, Finished, Cancelled, Request, is_open, IsDigest, Running, working, id_in, request_in, done_in, pool_of, IsHeld, IsRun, IsWork, with_count, with_run, queue_undone, take_undone, IsQueued, IsTaken}
use Rattle.uv_requests.proofs.Bounds.{pool_fits}
use Rattle.uv_requests.proofs.Beside.{Leaves, told_by, pool_now, work_now, ends_stay, elsewhere, none_waits, none_ends, not_in, none_before}
use Rattle.uv_requests.proofs.Holding.{listed_id, one_held, front_held}
use Rattle.uv_requests.proofs.Rules.{queue_rule, queue_size, take_rule, take_size}

-- a request is put in a new slot, and behind those that wait; and its count fits
pub queue_done : {X : Type 0} {read : X → Option Request} {make : Request → X} {i k j : Image X} {d : Id} {req : Request} {u : InsertUndo}
    {r : Running} → ((q : Request) → read (make q) ≡ Some q) → IsWork read (working i r) → is_open req.outcome ≡ true → IsInserted i k (make req) d u
    → IsPushed k j Waiting d (members k Waiting ++ d.slot ∷ [])
    → IsQueued read make (working i r) (working j (with_count (r.count + 1) r)) req d (record { inserted = u; count = r.count })
    × (IsSound j → r.count + 1 < 4294967296)
queue_done {read = read} {make = make} {i = i} {k = k} {j = j} {d = d} {req = req} {u = u} {r = r} gives_back w opened put p = (
  record {
    rule = queue_rule (pool_of read (working i r)) d (not_in w d none) ∙ ap Some (sym (pool_now w left));
    next = put.next;
    request = request_now;
    plain = p.slots.plain ∙ put.plain;
    waiting = p.lists ∙ ap (λ xs. xs ++ d.slot ∷ []) (put.lists Waiting);
    listed = p.listed;
    others = λ l ne. p.others l ne ∙ put.lists l;
    contents = λ e n. p.slots.contents e ∙ put.contents e n;
    kept = λ e n. p.kept e n ∙ put.kept e n;
    work = work;
    undone = back;
    can_undo = record {
      pushed = subst (CanUndoPush j) (sym put.slot) p.can_undo;
      inserted = subst (λ z. CanUndoInsert z u) (sym (ap (λ z. push_undone z j) put.slot ∙ p.undone)) put.can_undo;
      work = subst (IsWork read) (sym back) w;
    };
  },
  λ s. pool_fits read (working j (with_count (r.count + 1) r)) s work,
) where
  none : (e : Id) → e.slot ≡ d.slot → request_in read i e ≡ None
  none = none_before read i k d r w (make req) u put

  request_now : request_in read j d ≡ Some req
  request_now = ap (option_and_then read) (p.slots.contents d ∙ put.now) ∙ gives_back req

  left : Leaves read i j r (with_count (r.count + 1) r) d 0 (members i Waiting) (members i EndedYet ++ members i Ended) true false
      (done_in read j d.slot)
  left = record {
    same = λ e n. p.slots.contents e ∙ put.contents e n;
    kept = λ e n. p.kept e n ∙ put.kept e n;
    wait_is = none_waits w d none;
    ends_is = none_ends w d none;
    waiting = p.lists ∙ ap (λ xs. xs ++ d.slot ∷ []) (put.lists Waiting);
    ended = λ l. (p.others EndedYet (λ e. cc) ∙ put.lists EndedYet) l ++ (p.others Ended (λ e. cc) ∙ put.lists Ended) l;
    waits = λ e. record { request = req; is = request_now; outcome = opened };
    is_done = λ e. cc;
    listed = λ e s h on. refl;
    told = told_by read j d req request_now (grind arith);
    runs = λ c e g. inr (elsewhere w d none e true (w.running c e g).request, g);
  }

  work : IsWork read (working j (with_count (r.count + 1) r))
  work = work_now w left (ap (λ z. z + 1) w.count ∙ sym (queue_size (pool_of read (working i r)) d))

  back : queue_undone (record { inserted = u; count = r.count }) (working j (with_count (r.count + 1) r)) ≡ working i r
  back = cc

-- a worker that runs nothing takes the first of those that wait
pub take_done : {X : Type 0} {read : X → Option Request} {i j : Image X} {d : Id} {t : ChainPlace} {k : ℕ} {r : Running} → IsWork read (working i r)
    → slice_get r.workers k ≡ Some None → IsFirst i Waiting d → IsUnlinked i j d t
    → IsTaken read (working i r) (working j (with_run k (Some d) r)) k d (record { worker = k; unlinked = t })
take_done {read = read} {i = i} {j = j} {d = d} {t = t} {k = k} {r = r} w idle f un = record {
  rule = take_rule (pool_of read (working i r)) k d (map (id_in i) f.rest) idle waited ∙ ap Some (sym (pool_now w left));
  idle = idle;
  first = f;
  running = refl;
  waiting = un.lists Waiting ∙ f.after;
  others = λ l ne. un.lists l ∙ f.others l ne;
  slots = un.slots;
  loose = un.loose;
  kept = un.kept;
  work = work_now w left (w.count ∙ sym (take_size (pool_of read (working i r)) k d (map (id_in i) f.rest) idle waited));
  undone = back;
  can_undo = record {
    worker = let within = slice_get_within r.workers k None idle in let long = length-set r.workers k (Some d) in omega (arith, within, long);
    unlinked = un.can_undo;
    work = subst (IsWork read) (sym back) w;
  };
} where
  front : IsHeld read i d true
  front = front_held read i Waiting d true f w.waiting

  run_now : IsRun read j d
  run_now = record {
    request = record { request = front.request; is = ap (option_and_then read) (un.slots.contents d) ∙ front.is; outcome = front.outcome };
    loose = un.loose;
  }

  left : Leaves read i j r (with_run k (Some d) r) d k f.rest (members i EndedYet ++ members i Ended) false false (done_in read j d.slot)
  left = record {
    same = λ e n. un.slots.contents e;
    kept = un.kept;
    wait_is = f.after;
    ends_is = ends_stay i d (f.others EndedYet (λ e. cc)) (f.others Ended (λ e. cc));
    waiting = un.lists Waiting ∙ f.after;
    ended = λ l. (un.lists EndedYet ∙ f.others EndedYet (λ e. cc)) l ++ (un.lists Ended ∙ f.others Ended (λ e. cc)) l;
    waits = λ e. cc;
    is_done = λ e. cc;
    listed = grind arith;
    told = λ e x s h. w.digests e x (sym (ap (option_and_then read) (un.slots.contents e)) ∙ h);
    runs = λ c e g. elim (eqb_tells c k) [
      | inl y ↦ inl (y.1, cc (set_here r.workers k None (Some d) idle, ap (slice_get (with_run k (Some d) r).workers) y.1, g), run_now)
      | inr n ↦
          let was = sym (set_there r.workers k c (Some d) n.1) ∙ g in
          inr (grind arith)
    ];
  }

  waited : (pool_of read (working i r)).waiting ≡ d ∷ map (id_in i) f.rest
  waited = ap (map (id_in i)) f.is ∙ ap (λ z. z ∷ map (id_in i) f.rest) (listed_id i d f.listed.held)

  back : take_undone (record { worker = k; unlinked = t }) (working j (with_run k (Some d) r)) ≡ working i r
  back = λ l. record { arena = un.undone l; running = record { workers = set_back r.workers k None (Some d) idle l; count = r.count } }

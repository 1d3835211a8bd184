-- A request is cancelled by its name.
use Rattle.uv_ops.proofs.Names.{◌≡◌, ℕ, ◌||◌, Bool, true, false, if◌then◌else◌, cond, eqb, List, [], ◌∷◌, map, Option, Some, None, option_map, refl, sym, ap, ◌∙◌, subst, list_any, Id, Var, Code, Answer, with_last, without, Pool, waits, cancelled, cancel_refusal, CancelUndo, id_in, pool_of, IsCancelled, id_is, content_of, Place, same_id, without_id, State, with_id, as_request, live_id, live_request, Done, refuses, cancel, turned, Content, Handle, Asked, Record, request_of, By, Image, Held, working_of, OnlyWork, named, Performs, StandsFor, held_there, slots_set, ids_kept, map_same, live_by, asked_there, list_same, done_more, pool_stands, without_ids, Cancels, running_is}
use Rattle.uv_ids.specs.declared.code.Code.TheVariants as code
use Rattle.uv_ids.specs.declared.code.Answer.TheVariants as answer
use Rattle.uv_script.specs.declared.op.Op.TheVariants as op
use Rattle.uv_records.specs.declared.lists.ListName.TheVariants as name
use Rattle.uv_records.specs.Slots as plain
use Rattle.uv_arena.specs.Image as arena
use Rattle.uv_requests.specs.Working as work
use Rattle.uv_model.specs.Ops as ops
use Rattle.uv_memory.specs.Change as change

-- ---- who waits

any_same : (ids : List Id) (d : Id) → list_any (same_id d) ids ≡ waits ids d
any_same [] d = refl
any_same (x ∷ ids) d = let here = turned d x in let rest = any_same ids d in λ l. here l || rest l

waits_there : (i : Image Place) (s : State) (d : Id) (w : Bool) → StandsFor i s → waits (pool_of request_of (working_of i)).waiting d ≡ w
    → list_any (same_id d) s.waiting ≡ w
waits_there i s d w h e = any_same s.waiting d ∙ ap (λ ids. waits ids d) (h.lists name.Waiting) ∙ e

-- ---- a cancel that is refused

-- the request of a name that is bound to this
request_by : (i : Image Place) (s : State) (v : Var) (o : Option Id) → StandsFor i s → o ≡ (named i.names v.0).id
    → live_request s v ≡ as_request (live_id s o)
request_by i s v o h e = ap as_request (live_by i s v o h e)

refused_by : (s : State) (d : Id) (o : Option Content) (w : Bool) (why : Code) → list_any (same_id d) s.waiting ≡ w
    → cancel_refusal (option_map request_of o) w ≡ Some why → cancel s (as_request (with_id d o)) ≡ refuses s why
refused_by s d None w why any e = let q : code.Estale ≡ why = cc e in ap (refuses s) q
refused_by s d (Some (Handle h)) w why any e = let q : code.Ekind ≡ why = cc e in ap (refuses s) q
refused_by s d (Some (Asked r)) true why any e = cc
refused_by s d (Some (Asked r)) false why any e =
    let q : code.Ebusy ≡ why = cc e in
    let done : Done = record { state = ops.cancelled s d r; answer = answer.Cancelled d } in
    ap (λ (b : Bool). if b then done else refuses s code.Ebusy) any ∙ ap (refuses s) q

pub cancel_unbound : (i : Image Place) (v : Var) → None ≡ (named i.names v.0).id → Cancels v i i (answer.Code code.Estale)
cancel_unbound i v unbound s h = (s, ap (λ o. cancel s (as_request o)) (live_by i s v None h unbound), h)

pub cancel_refused : (i j : Image Place) (v : Var) → j ≡ i → (d : Id) (why : Code) → Some d ≡ (named i.names v.0).id
    → cancel_refusal (work.found request_of i.arena d) (waits (pool_of request_of (working_of i)).waiting d) ≡ Some why
    → Cancels v i j (answer.Code why)
cancel_refused i j v same d why bound r s h =
    let w = waits (pool_of request_of (working_of i)).waiting d in (
      s,
      ap (cancel s) (request_by i s v (Some d) h bound)
          ∙ refused_by s d (plain.held s.arena.slots d) w why (waits_there i s d w h refl)
          (ap (λ o. cancel_refusal (option_map request_of o) w) (sym (held_there i s d h)) ∙ r),
      subst (λ q. StandsFor q s) (sym same) h,
    )

-- ---- a cancel that is done

some_cut : (b : Bool) (p q : Pool) → cond b (Some p) None ≡ Some q → b ≡ true
some_cut true p q e = refl
some_cut false p q e = cc

module _ (i j : Image Place) (d : Id) (u : CancelUndo) (c : IsCancelled request_of Asked (working_of i) (working_of j) d u) where
  waited : waits (pool_of request_of (working_of i)).waiting d ≡ true
  waited = some_cut _ _ _ c.rule

  was : (x : Content) × (arena.held i.arena d ≡ Some x) × (request_of x ≡ Some c.from)
  was = content_of request_of i.arena d c.from c.was

  one : id_in i.arena d.slot ≡ d
  one = id_is i.arena d was.0 was.1

  ids : (x : ℕ) → id_in j.arena x ≡ id_in i.arena x
  ids = ids_kept i.arena j.arena d (Asked (cancelled c.from)) was.0 was.1 c.plain

  module _ (s : State) (h : StandsFor i s) where
    abbrev cancelled_state : State
    cancelled_state = record s {
      arena = record s.arena { slots = plain.with_held s.arena.slots d (Asked (cancelled c.from)) };
      waiting = without_id s.waiting d;
      done = with_last s.done d;
    }

    cancelled_is : (v : Var) → Some d ≡ (named i.names v.0).id
        → cancel s (live_request s v) ≡ record { state = cancelled_state; answer = answer.Cancelled d }
    cancelled_is v bound =
        let done : Done = record { state = cancelled_state; answer = answer.Cancelled d } in
        ap (cancel s) (request_by i s v (Some d) h bound)
        ∙ ap (λ o. cancel s (as_request (with_id d o))) (asked_there i s d c.from h c.was)
        ∙ ap (λ (b : Bool). if b then done else refuses s code.Ebusy) (waits_there i s d true h waited)

    cancelled_stands : StandsFor (record i { arena = j.arena; running = j.running }) cancelled_state
    cancelled_stands = pool_stands i s h j.arena j.running
        (record s.arena { slots = plain.with_held s.arena.slots d (Asked (cancelled c.from)) }) (without_id s.waiting d) s.running
        (with_last s.done d) ids
        (λ l a b x. c.others l a b)
        (ap (λ xs. without_id xs d) (h.lists name.Waiting)
        ∙ without_ids (id_in i.arena) d (λ x. refl) one (arena.members i.arena name.Waiting)
        ∙ sym (map_same (id_in j.arena) (id_in i.arena) ids (without eqb (arena.members i.arena name.Waiting) d.slot))
        ∙ ap (map (id_in j.arena)) (sym c.waiting))
        (done_more i s j.arena d h one ids c.done)
        (list_same i j.arena ids name.DoneYet s.done.yet (h.lists name.DoneYet) (c.others name.DoneYet (λ z. cc) (λ z. cc)))
        (slots_set i s j.arena d (Asked (cancelled c.from)) h c.plain)
        (ap (λ (z : work.Running). z.workers) c.running ∙ (running_is h))

module _ (r : Record Place) (h w : Held Place) (frame : OnlyWork h.image w.image) (v : Var)
    (d : Id) (bound : Some d ≡ (named h.image.names v.0).id) where
  done_with : (u : CancelUndo) → IsCancelled request_of Asked (working_of h.image) (working_of w.image) d u
      → Cancels v h.image w.image (answer.Cancelled d)
  done_with u c s stands =
      let i = h.image in
      let j = w.image in
      let t = cancelled_state i j d u c s stands in (
        t,
        cancelled_is i j d u c s stands v bound,
        subst (λ q. StandsFor q t) (sym frame) (cancelled_stands i j d u c s stands),
      )

  pub cancel_done : By change.Cancelled (λ u. IsCancelled request_of Asked (working_of h.image) (working_of w.image) d u) r.change
      → Cancels v h.image w.image (answer.Cancelled d)
  cancel_done by = done_with by.undo by.does

-- the same as an op
pub cancel_performs : (v : Var) (i j : Image Place) (a : Answer) → Cancels v i j a → Performs (op.Cancel v) i j a
cancel_performs v i j a cancels s h reached = cancels s h

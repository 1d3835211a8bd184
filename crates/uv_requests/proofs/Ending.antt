-- A request is finished or cancelled, and goes to the end of those that are done.
use Rattle.uv_requests.proofs.Names.{◌≡◌, ◌≢◌, ℕ, true, false, eqb, List, [], ◌∷◌, ◌++◌, map, slice_get, Option, Some, None, is_some, option_and_then, option_map, refl, sym, ap, ◌∙◌, subst, append_assoc, inl, inr, arith, eqb_tells, length-set, slice_get_within, Id, Ebusy, ListName, Waiting, Ended, EndedYet, slots_without, ChainPlace, Image, members, held, on_list, IsSound, set_undone, push_undone, unlink_undone, CanUndoSet, CanUndoUnlink, IsSet, IsPushed, IsUnlinked, content_of, set_here, set_there, set_back, one_list, without_none, apart_from, same_id, Job, Request, is_open, is_finished, ended, finished, cancelled, reopened, job_of, cancel_refusal, IsDigest, waits, without, Outcome, Open, Finished, Cancelled, Running, working, found, id_in, request_in, done_in, was_finished, pool_of, IsHeld, IsRun, IsWork, with_run, reopened_by, reopened_in, finish_undone, cancel_undone, CanReopen, IsFinished, IsCancelled}
use Rattle.uv_records.specs.Slots as plain
use Rattle.uv_requests.proofs.Beside.{Leaves, told_by, pool_now, work_now, ends_stay}
use Rattle.uv_requests.proofs.Holding.{held_id, one_held, not_both, member, list_apart}
use Rattle.uv_requests.proofs.Rules.{not_same, none_of, waits_in, without_in, finish_rule, finish_size, cancel_rule, cancel_size}

open_is : (o : Outcome) → is_open o ≡ true → o ≡ Open
open_is each e = grind arith

-- an open request that ended and is open again is what it was
reopened_same : (r : Request) (o : Outcome) → is_open r.outcome ≡ true → reopened (ended o r) ≡ r
reopened_same r o h = λ l. record { name = r.name; task = r.task; outcome = sym (open_is r.outcome h) l }

-- a request that is off its list, or was on none, ends
pub record Ends {X : Type 0} (read : X → Option Request) (make : Request → X) (a k j : Image X) (d : Id) (from : Request) (o : Outcome) : Type 0 where
  pub gives_back : (r : Request) → read (make r) ≡ Some r
  pub opened : is_open from.outcome ≡ true
  pub closed : is_open o ≡ false
  pub told : IsDigest from.task o
  pub set : IsSet a k d (make (ended o from)) (make from)
  pub pushed : IsPushed k j Ended d (members k Ended ++ d.slot ∷ [])

module _ {X : Type 0} {read : X → Option Request} {make : Request → X} {a k j : Image X} {d : Id} {from : Request} {o : Outcome}
    (f : Ends read make a k j d from o) where
  request_now : request_in read j d ≡ Some (ended o from)
  request_now = ap (option_and_then read) (f.pushed.slots.contents d ∙ f.set.now) ∙ f.gives_back (ended o from)

  held_now : IsHeld read j d false
  held_now = record { request = ended o from; is = request_now; outcome = f.closed }

  done_now : done_in read j d.slot ≡ record { id = d; finished = is_finished o }
  done_now =
      let one = held_id read j d false held_now in
      let r : request_in read j (id_in j d.slot) ≡ Some (ended o from) = ap (request_in read j) one ∙ request_now in
      λ l. record { id = one l; finished = was_finished (r l) }

  there_set : request_in read k d ≡ Some (ended o from)
  there_set = ap (option_and_then read) f.set.now ∙ f.gives_back (ended o from)

  reopened_back : reopened_in read make d (push_undone d.slot j) ≡ a
  reopened_back = ap (reopened_in read make d) f.pushed.undone ∙ ap (λ q. reopened_by make q d.slot k) there_set
      ∙ ap (λ q. set_undone d.slot (make q) k) (reopened_same from o f.opened) ∙ f.set.undone

  can_reopen : CanReopen make (request_in read (push_undone d.slot j) d) d.slot (push_undone d.slot j)
  can_reopen = subst (λ z. CanReopen make (request_in read z d) d.slot z) (sym f.pushed.undone)
      (subst (λ q. CanReopen make q d.slot k) (sym there_set)
      (subst (λ q. CanUndoSet k d.slot (make q)) (sym (reopened_same from o f.opened)) f.set.can_undo))

  module _ (i : Image X) (contents : (e : Id) → held a e ≡ held i e) (kept : (e : Id) → e.slot ≢ d.slot → on_list a e ≡ on_list i e)
      (lists : (l : ListName) → members a l ≡ slots_without eqb (members i l) d.slot)
      (stays : (l : ListName) → l ≢ Waiting → slots_without eqb (members i l) d.slot ≡ members i l) where
    others : (l : ListName) → l ≢ Ended → members j l ≡ slots_without eqb (members i l) d.slot
    others l n = f.pushed.others l n ∙ f.set.lists l ∙ lists l

    done_list : members j Ended ≡ members i Ended ++ d.slot ∷ []
    done_list = f.pushed.lists ∙ ap (λ xs. xs ++ d.slot ∷ []) (f.set.lists Ended ∙ lists Ended ∙ stays Ended (λ e. cc))

    left : {r q : Running} {c : ℕ} {wait : List ℕ} → slots_without eqb (members i Waiting) d.slot ≡ wait
        → ((b : ℕ) (e : Id) → slice_get q.workers b ≡ Some (Some e) → (e.slot ≢ d.slot) × (slice_get r.workers b ≡ Some (Some e)))
        → Leaves read i j r q d c wait (members i EndedYet ++ members i Ended) false true (record { id = d; finished = is_finished o })
    left is runs = record {
      same = λ e n. f.pushed.slots.contents e ∙ f.set.contents e n ∙ contents e;
      kept = λ e n. f.pushed.kept e n ∙ f.set.kept e ∙ kept e n;
      wait_is = is;
      ends_is = ends_stay i d (stays EndedYet (λ e. cc)) (stays Ended (λ e. cc));
      waiting = others Waiting (λ e. cc) ∙ is;
      ended = (λ l. (others EndedYet (λ e. cc) ∙ stays EndedYet (λ e. cc)) l ++ done_list l)
          ∙ sym (append_assoc (members i EndedYet) (members i Ended) (d.slot ∷ []));
      waits = λ e. cc;
      is_done = λ e. (held_now, done_now);
      listed = λ e s h on. absurd (not_both read j d (subst (λ z. IsHeld read j z true) (one_held read j d e false true held_now h s) h) held_now);
      told = told_by read j d (ended o from) request_now f.told;
      runs = λ b e g. inr (runs b e g);
    }

-- a worker finishes its request
pub finish_done : {X : Type 0} {read : X → Option Request} {make : Request → X} {i k j : Image X} {d : Id} {from : Request} {digest : List ℕ} {c : ℕ}
    {r : Running} {asked : Job} → ((q : Request) → read (make q) ≡ Some q) → IsSound i → IsWork read (working i r)
    → slice_get r.workers c ≡ Some (Some d) → request_in read i d ≡ Some from → IsSet i k d (make (finished digest from)) (make from)
    → IsPushed k j Ended d (members k Ended ++ d.slot ∷ []) → job_of d from ≡ asked → IsDigest from.task (Finished digest)
    → IsFinished read make (working i r) (working j (with_run c None r)) c d asked digest (record { worker = c; id = d })
finish_done {read = read} {make = make} {i = i} {k = k} {j = j} {d = d} {from = from} {digest = digest} {c = c} {r = r} gives_back s w runs
    there set p job told = record {
      rule = finish_rule (pool_of read (working i r)) c d runs ∙ ap Some (sym (pool_now w frame));
      from = from;
      was = there;
      job = job;
      runs = runs;
      running = refl;
      plain = p.slots.plain ∙ set.plain;
      request = request_now ends;
      done = p.lists ∙ ap (λ xs. xs ++ d.slot ∷ []) (set.lists Ended);
      listed = p.listed;
      others = λ l n. p.others l n ∙ set.lists l;
      contents = frame.same;
      kept = frame.kept;
      work = work_now w frame (w.count ∙ sym (finish_size (pool_of read (working i r)) c d runs));
      undone = back;
      can_undo = record {
        worker = let within = slice_get_within r.workers c (Some d) runs in let long = length-set r.workers c None in omega (arith, within, long);
        pushed = p.can_undo;
        reopened = can_reopen ends;
        work = subst (IsWork read) (sym back) w;
      };
    } where
      run : IsRun read i d
      run = w.running c d runs

      opened : is_open from.outcome ≡ true
      opened = let same : run.request.request ≡ from = cc (run.request.is, there) in rw same at run.request.outcome

      ends : Ends read make i k j d from (Finished digest)
      ends = record { gives_back = gives_back; opened = opened; closed = refl; told = told; set = set; pushed = p }

      loose : (l : ListName) → slots_without eqb (members i l) d.slot ≡ members i l
      loose = apart_from i s d (let x = content_of read i d from there in ap is_some x.1) run.loose

      -- what a worker runs still, it ran before, and it isn't this one
      ran : (b : ℕ) (e : Id) → slice_get (with_run c None r).workers b ≡ Some (Some e) → (e.slot ≢ d.slot) × (slice_get r.workers b ≡ Some (Some e))
      ran b e g = elim (eqb_tells b c) [
        | inl y ↦ cc (set_here r.workers c (Some d) None runs, ap (slice_get (with_run c None r).workers) y.1, g)
        | inr n ↦
            let was = sym (set_there r.workers c b None n.1) ∙ g in (
              (λ y. let one = one_held read i d e true true run.request (w.running b e was).request y in
                  n.1 (w.apart b c d (was ∙ ap (λ z. Some (Some z)) one) runs)),
              was,
            )
      ]

      frame : Leaves read i j r (with_run c None r) d c (members i Waiting) (members i EndedYet ++ members i Ended) false true (record {
        id = d;
        finished = true;
      })
      frame = left ends i (λ e. refl) (λ e n. refl) (λ l. sym (loose l)) (λ l n. loose l) (loose Waiting) ran

      back : finish_undone read make (record { worker = c; id = d }) (working j (with_run c None r)) ≡ working i r
      back = λ l. record {
        arena = reopened_back ends l;
        running = record { workers = set_back r.workers c (Some d) None runs l; count = r.count };
      }

-- a request that waits is cancelled
pub cancel_done : {X : Type 0} {read : X → Option Request} {make : Request → X} {i a k j : Image X} {d : Id} {from : Request} {t : ChainPlace}
    {r : Running} → IsSound i → IsWork read (working i r) → request_in read i d ≡ Some from → on_list i d ≡ true → IsUnlinked i a d t
    → Ends read make a k j d from Cancelled → IsCancelled read make (working i r) (working j r) d (record { id = d; unlinked = t })
cancel_done {X = X} {read = read} {make = make} {i = i} {a = a} {k = k} {j = j} {d = d} {from = from} {t = t} {r = r} s w there on un f = record {
  rule = cancel_rule (pool_of read (working i r)) d (map (id_in i) rest) waits_was without_was ∙ ap Some (sym (pool_now w frame));
  from = from;
  was = there;
  running = refl;
  plain = cc;
  request = request_now f;
  waiting = frame.waiting;
  done = done_list f i un.slots.contents un.kept un.lists stay;
  listed = f.pushed.listed;
  others = λ l n m. others f i un.slots.contents un.kept un.lists stay l m ∙ stay l n;
  contents = frame.same;
  kept = frame.kept;
  work = work_now w frame (w.count ∙ sym (cancel_size (pool_of read (working i r)) d (map (id_in i) rest) waits_was without_was));
  undone = back;
  can_undo = record {
    pushed = f.pushed.can_undo;
    reopened = can_reopen f;
    unlinked = subst (λ z. CanUndoUnlink z t) (sym (reopened_back f)) un.can_undo;
    work = subst (IsWork read) (sym back) w;
  };
} where
  rest : List ℕ
  rest = slots_without eqb (members i Waiting) d.slot

  held_open : IsHeld read i d true
  held_open = record { request = from; is = there; outcome = f.opened }

  stay : (l : ListName) → l ≢ Waiting → slots_without eqb (members i l) d.slot ≡ members i l
  stay l n = without_none (members i l) d.slot (λ m. one_list i s l Waiting d.slot m (w.listed d held_open on) n)

  frame : Leaves read i j r r d 0 rest (members i EndedYet ++ members i Ended) false true (record { id = d; finished = false })
  frame = left f i un.slots.contents un.kept un.lists stay refl
      (λ b e g. (grind arith))

  waits_was : waits (pool_of read (working i r)).waiting d ≡ true
  waits_was = subst (λ e. waits (pool_of read (working i r)).waiting e ≡ true) (held_id read i d true held_open)
      (waits_in (id_in i) d.slot (members i Waiting) (w.listed d held_open on))

  without_was : without (pool_of read (working i r)).waiting d ≡ map (id_in i) rest
  without_was = subst (λ e. without (pool_of read (working i r)).waiting e ≡ map (id_in i) rest) (held_id read i d true held_open)
      (without_in (id_in i) d.slot (members i Waiting) (list_apart i s Waiting) (λ y e. ap (λ (z : Id). z.slot) e))

  back : cancel_undone read make (record { id = d; unlinked = t }) (working j r) ≡ working i r
  back = ap (λ z. working (unlink_undone t z) r) (reopened_back f) ∙ ap (λ z. working z r) un.undone

-- a request that doesn't wait is busy: one that isn't open, or is on no list
module _ {X : Type 0} {read : X → Option Request} {i : Image X} {r : Running} (s : IsSound i) (w : IsWork read (working i r)) (d : Id)
    (from : Request) (there : request_in read i d ≡ Some from) where
  busy_refusal : (IsHeld read i d true → on_list i d ≡ true → ⊥)
      → cancel_refusal (found read i d) (waits (map (id_in i) (members i Waiting)) d) ≡ Some Ebusy
  busy_refusal n =
      let c = content_of read i d from there in let is : found read i d ≡ Some (Some from) = ap (option_map read) c.1 ∙ ap Some c.2 in
      let not = none_of (λ z. same_id z d) (id_in i) (members i Waiting) (λ x m. not_same (id_in i x) d (λ one.
      n (subst (λ z. IsHeld read i z true) one (w.waiting x m)) (subst (λ z. on_list i z ≡ true) one (member i s Waiting x m).listed))) in
      λ l. cancel_refusal (is l) (not l)

  pub closed_refusal : is_open from.outcome ≡ false
      → cancel_refusal (found read i d) (waits (map (id_in i) (members i Waiting)) d) ≡ Some Ebusy
  closed_refusal e = busy_refusal (λ h on. not_both read i d h (record { request = from; is = there; outcome = e }))

  pub loose_refusal : on_list i d ≡ false → cancel_refusal (found read i d) (waits (map (id_in i) (members i Waiting)) d) ≡ Some Ebusy
  loose_refusal e = busy_refusal (λ h on. cc)

-- Each worker that runs a request may finish it.
use Rattle.uv_find.proofs.Names.{◌≡◌, ℕ, zero, suc, ◌<◌, true, List, [], ◌∷◌, ◌++◌, length, nat_lt, slice_get, option_and_then, refl, sym, ap, subst, ◌∙◌, Option, Some, None, true≢false, arith, option_map, same_Some, slice_get-map, Event, Id, Request, Program, worker_count, Moves, run_by, State, request, after-nil, after-moves, has_id, run_ids, AreDistinct, AreOpened, IsInSlot, has_at, one_in_slot, Asked, Step, Left, Kept, may_take_at_once, Course, IsOffered, LeadsOn, EachFinishes, Rules, Place, Choice, Led, at_will, finishes, lessened, chosen, offered_by, beginning, first_left, timed, brief, move_count, move_count_by, key_at, keys_run, rank_of, runner, finish_by, ranked, rules_of}
use Rattle.uv_ids.specs.declared.event.Event.TheVariants as event
use Rattle.uv_model.specs.After.{after}
use Rattle.uv_model.specs.Next.{next}
use Rattle.uv_order.proofs.Reaching.{reached}
use Rattle.uv_find.specs.declared.left.Left.TheVariants as left
use Rattle.uv_find.proofs.Led.{choice_is, event_at}
use Rattle.uv_find.proofs.Meeting.{get_within}
use Rattle.uv_find.proofs.Offers.{behind_first, finish_in}
use Rattle.uv_find.proofs.Ranking.{Run, rank_one}
use Rattle.uv_find.proofs.Runners.{after_long, rank_slot, slot_rank, key_there, rank_below}

-- ---- what is left

pub at_will_kept : (xs : List Left) (i k : ℕ) → slice_get xs i ≡ Some left.AtWill → slice_get (lessened xs k) i ≡ Some left.AtWill
at_will_kept (x ∷ xs) (suc i) (suc k) e = grind (arith, slice_get, suc, (at_will_kept xs i k e))
at_will_kept each e1 e2 e = grind arith

chosen_left : (xs : List Left) (kept : Kept) (o : Option Event) (c : Choice) → chosen xs kept o ≡ Some c → c.left ≡ xs
chosen_left xs kept o c h = grind arith

module _ (r : Rules) (differ : r.differ ≡ None) where
  leads_left : (p : Place) (l : Led) (i : ℕ) → LeadsOn r p l → slice_get p.left i ≡ Some left.AtWill → slice_get l.place.left i ≡ Some left.AtWill
  leads_left p l i on e =
      let choice : on.choice.left ≡ lessened p.left on.number =
      chosen_left (lessened p.left on.number) p.kept (event_at r p on.number) on.choice (sym (choice_is r differ p on.number) ∙ on.offered) in
      let place : l.place.left ≡ lessened p.left on.number = ap (λ (x : Place). x.left) on.taken ∙ choice in
      ap (λ xs. slice_get xs i) place ∙ at_will_kept p.left i on.number e

  course_left : (p : Place) (es : List Event) (q : Place) (i : ℕ) → Course r p es q → slice_get p.left i ≡ Some left.AtWill
      → slice_get q.left i ≡ Some left.AtWill
  course_left p [] q i same e = ap (λ (x : Place). slice_get x.left i) same ∙ e
  course_left p (f ∷ es) q i (l, is, on, rest) e = course_left l.place es q i rest (leads_left p l i on e)

  course_state : (p : Place) (es : List Event) (q : Place) (fs : List Event) → p.state ≡ after r.program fs → Course r p es q
      → (gs : List Event) × (q.state ≡ after r.program gs)
  course_state p [] q fs here same = (fs, ap (λ (x : Place). x.state) same ∙ here)
  course_state p (f ∷ es) q fs here (l, is, on, rest) =
      let goes : next r.program (after r.program fs) l.event ≡ Moves l.place.state l.line =
      subst (λ x. next r.program x l.event ≡ Moves l.place.state l.line) here on.accepted in
      course_state l.place es q (fs ++ l.event ∷ []) (sym (after-moves r.program fs l.event l.place.state l.line goes)) rest

-- ---- who runs it

request_held : (s : State) (id : Id) (q : Request) → request s id ≡ Some q → IsInSlot s id
request_held s id q e = grind arith

distinct_behind : (xs ys : List Id) → AreDistinct (xs ++ ys) → AreDistinct ys
distinct_behind [] ys d = d
distinct_behind (x ∷ xs) ys d = distinct_behind xs ys d.1

-- no request is run twice
one_runner : (xs : List Run) (i j : ℕ) (id : Id) → AreDistinct (run_ids xs) → slice_get xs i ≡ Some (Some id) → slice_get xs j ≡ Some (Some id)
    → i ≡ j
one_runner (None ∷ xs) (suc i) (suc j) id d e f = ap suc (one_runner xs i j id d e f)
one_runner (Some x ∷ xs) zero (suc j) id d e f =
    let same : x ≡ id = same_Some x id (same_Some (Some x) (Some id) e) in
    absurd (true≢false (sym (has_at [] xs j id f) ∙ ap (has_id (run_ids xs)) (sym same) ∙ d.0))
one_runner (Some x ∷ xs) (suc i) zero id d e f =
    let same : x ≡ id = same_Some x id (same_Some (Some x) (Some id) f) in
    absurd (true≢false (sym (has_at [] xs i id e) ∙ ap (has_id (run_ids xs)) (sym same) ∙ d.0))
one_runner (Some x ∷ xs) (suc i) (suc j) id d e f = ap suc (one_runner xs i j id d.1 e f)
one_runner each e1 e2 id d e f = grind arith

pub run_there : (xs : List Run) (k : ℕ) (id : Id) → option_and_then (λ run. run) (slice_get xs k) ≡ Some id → slice_get xs k ≡ Some (Some id)
run_there xs k id e = grind arith

runs_within : (xs : List Run) (k : ℕ) (id : Id) → slice_get xs k ≡ Some (Some id) → k < length xs
runs_within (x ∷ xs) (suc k) id e = let more = runs_within xs k id e in omega (arith, more)
runs_within each e1 id e = grind arith

-- of a request that a worker runs, the worker of its rank is that one
pub rank_runs : (s : State) → AreDistinct (s.waiting ++ run_ids s.running)
    → ((k : ℕ) (x : Id) → slice_get s.running k ≡ Some (Some x) → IsInSlot s x)
    → (worker : ℕ) (id : Id) → slice_get s.running worker ≡ Some (Some id) → runner s (rank_of s id) ≡ Some worker
rank_runs s distinct in_slot worker id runs =
    let first = slot_rank s worker id (rank_of s id) runs refl in
    let found = rank_slot s (rank_of s id) first.0 first.1 in
    let other = found.0 in
    let key : key_at s.arena.slots other ≡ key_at s.arena.slots id =
    rank_one (keys_run s) first.0 worker (key_at s.arena.slots other) (key_at s.arena.slots id) (key_there s first.0 other found.1)
    (key_there s worker id runs) found.2 in
    let slot : other.slot ≡ id.slot = ap (λ (x : Id). x.generation) key in
    let one : other ≡ id = one_in_slot s other id slot (in_slot first.0 other found.1) (in_slot worker id runs) in
    let same : first.0 ≡ worker = one_runner s.running first.0 worker id (distinct_behind s.waiting (run_ids s.running) distinct)
    (found.1 ∙ ap (λ x. Some (Some x)) one) runs in
    first.1 ∙ ap Some same

module _ (p : Program) (gs : List Event) (s : State) (is : s ≡ after p gs) (worker : ℕ) (id : Id)
    (runs : slice_get s.running worker ≡ Some (Some id)) where
  opened : AreOpened s (s.waiting ++ run_ids s.running)
  opened = subst (λ u. AreOpened u (u.waiting ++ run_ids u.running)) (sym is) (reached p gs).opened

  in_slot : (k : ℕ) (x : Id) → slice_get s.running k ≡ Some (Some x) → IsInSlot s x
  in_slot k x there = let its = opened.each x (has_at s.waiting s.running k x there) in request_held s x its.its its.holds

  -- it is the worker of the rank of its request
  pub its_rank : runner s (rank_of s id) ≡ Some worker
  its_rank = rank_runs s opened.distinct in_slot worker id runs

  long : length s.running ≡ worker_count p
  long = ap (λ (u : State). length u.running) is ∙ after_long p gs

-- ---- and so the move

finish_brief : (forget : Option ℕ) (worker : ℕ) → brief forget (Some (event.Finish worker)) ≡ Some (event.Finish worker)
finish_brief forget worker = grind arith

finish_timed : (most : Option ℕ) (clock number : ℕ) → timed most clock (Some (event.Finish number)) ≡ Some (event.Finish number)
finish_timed most clock number = grind arith

module _ (p : Program) (asked : Asked) (q : Place) (differ : asked.differ ≡ None) (worker : ℕ) where
  abbrev r : Rules
  r = rules_of p asked

  -- the offer of this number is that worker's finish
  finish_offered : (number : ℕ) → number < worker_count p → slice_get q.left (suc (suc number)) ≡ Some left.AtWill
      → ranked r.forget q.state (Some (event.Finish number)) ≡ Some (event.Finish worker) → IsOffered r q (event.Finish worker)
  finish_offered number below will of_rank =
      let here : slice_get r.offers (suc (suc number)) ≡ Some (at_will (Step (event.Finish number))) =
      behind_first (may_take_at_once p asked) (finishes (worker_count p)) asked.offers number
      ∙ finish_in (worker_count p) number asked.offers below in
      let count : move_count r q ≡ length r.offers = ap (λ d. move_count_by d (length r.offers) (length q.left)) differ in
      let within : nat_lt (suc (suc number)) (move_count r q) ≡ true =
      ap (nat_lt (suc (suc number))) count ∙ get_within r.offers (suc (suc number)) (at_will (Step (event.Finish number))) here in
      let comes : offered_by r q (Some (at_will (Step (event.Finish number)))) (Some left.AtWill) ≡ Some (event.Finish worker) =
      ap (λ o. brief r.forget (ranked r.forget q.state o)) (finish_timed r.clock q.state.clock number)
      ∙ ap (brief r.forget) of_rank ∙ finish_brief r.forget worker in
      let choice : Choice = record { event = event.Finish worker; left = lessened q.left (suc (suc number)); kept = q.kept } in
      record {
        number = suc (suc number);
        choice = choice;
        offered = grind (arith, choice_is, suc, slice_get, will);
        event = refl;
      }

module _ (p : Program) (asked : Asked) (es : List Event) (q : Place) (worker : ℕ) (id : Id) (differ : asked.differ ≡ None)
    (course : Course (rules_of p asked) (beginning (rules_of p asked)) es q) (runs : run_by q.state worker ≡ Some id) where
  abbrev all : Rules
  all = rules_of p asked

  state : (gs : List Event) × (q.state ≡ after p gs)
  state = course_state all differ (beginning all) es q [] (sym (after-nil p)) course

  there : slice_get q.state.running worker ≡ Some (Some id)
  there = run_there q.state.running worker id runs

  count : length q.state.running ≡ worker_count p
  count = long p state.0 q.state state.1 worker id there

  begins : (number : ℕ) → number < worker_count p → slice_get (beginning all).left (suc (suc number)) ≡ Some left.AtWill
  begins number below = grind (arith, slice_get, first_left, suc, slice_get-map, option_map, behind_first, worker_count, finish_in)

  will : (number : ℕ) → number < worker_count p → slice_get q.left (suc (suc number)) ≡ Some left.AtWill
  will number below = course_left all differ (beginning all) es q (suc (suc number)) course (begins number below)

  finished : (o : Option ℕ) → all.forget ≡ o → IsOffered all q (event.Finish worker)
  finished None whole =
      let below : worker < worker_count p = subst (λ n. worker < n) count (runs_within q.state.running worker id there) in
      finish_offered p asked q differ worker worker below (will worker below) (ap (λ o. ranked o q.state (Some (event.Finish worker))) whole)
  finished (Some n) some =
      let rank = rank_of q.state id in
      let below : rank < worker_count p = subst (λ m. rank < m) count (rank_below q.state worker id there) in
      finish_offered p asked q differ worker rank below (will rank below)
      (ap (λ o. ranked o q.state (Some (event.Finish rank))) some ∙ ap finish_by (its_rank p state.0 q.state state.1 worker id there))

pub each_finishes : EachFinishes
each_finishes p asked es q worker id differ course runs = finished p asked es q worker id differ course runs (rules_of p asked).forget refl

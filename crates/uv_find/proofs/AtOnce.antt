-- Where a worker takes a request at once: another move and the take, made in either order, meet.
use Rattle.uv_find.proofs.Names.{◌≡◌, ℕ, zero, suc, ◌+◌, ◌-◌, ◌<◌, ◌≤◌, ◌==◌, ◌&&◌, ◌||◌, not, Bool, true, false, List, [], ◌∷◌, ◌++◌, length, length-append, nat_le, nat_lt, is_none, is_some, take, drop, slice_get, slice_set, inl, inr, refl, sym, ap, ap₂, subst, ◌∙◌, Option, Some, None, if◌then◌else◌, arith, ◌⊎◌, and_parts, eqb-true, ltb-true, nat_tests, same_Some, none-some, Event, Loop, Take, Finish, Send, Tick, Id, Var, Named, Seen, Program, worker_count, State, Next, Moves, Refuses, cancels, LeavesPlace, Crosses, takes_apart, take_next, take_refuses, next_takes, next_finishes, take_leaves, Meet, IsApart, Offer, Offered, Question, Kept, Left, is_at_will, are_all_at_will, are_at_will, is_clear_of_takes, loop_number, kept_after, owes, Rules, Place, Led, led, closes, is_blocked, is_made, is_quiet, is_seen, refused_as_blocked, deadline_at, wait_until, take_by, event_of, offered_by, timed, brief, is_brief, at_will, may_take, taken, is_within, less, lessened, move_count, move_count_by, may_last, ends_within, is_in_poll, idle_worker, rank_of, runner, finish_by, ranked, answers, line_answers, place_answers, none_leads, is_uncalled, has_ended, Spot, AreOfPool, CanForget, CanTakeAtOnce, next_spot, spot_of, spot_code, apart, is_loop_first, is_take_first, is_few, IsSpot, HasRoom}
use Rattle.uv_ids.specs.declared.event.Event.TheVariants as event
use Rattle.uv_records.specs.Names as bound
use Rattle.uv_ids.specs.declared.seen.Seen.TheVariants as seen
use Rattle.uv_model.specs.Next.{next}
use Rattle.uv_apart.proofs.Pool.{Takes}
use Rattle.uv_apart.proofs.Beside.{takes_tick, takes_finish, takes_io, takes_send}
use Rattle.uv_asking.specs.declared.asking.Offer.TheVariants as offers
use Rattle.uv_asking.specs.declared.asking.Question.TheVariants as asks
use Rattle.uv_find.specs.declared.left.Left.TheVariants as left
use Rattle.uv_find.proofs.Led.{event_at, led_leads, leads_spot, state_behind, brief_more, length_more}
use Rattle.uv_find.proofs.Alike.{AreAlike, DueAlike}
use Rattle.uv_find.proofs.Covering.{led_take, takes_cover}
use Rattle.uv_find.proofs.Moving.{after_event, move_is, fewer}
use Rattle.uv_find.proofs.Meeting.{is_led, led_is, loop_meets, get_within, meet_by, not_true}
use Rattle.uv_find.proofs.Ranking.{first_at, first_some}
use Rattle.uv_find.proofs.Runners.{run_at, after_long, rank_below}
use Rattle.uv_find.proofs.Finishing.{at_will_kept, its_rank}
use Rattle.uv_find.proofs.Cancelling.{none_cancels}
use Rattle.uv_find.proofs.Offers.{or_last}
use Rattle.uv_find.proofs.Apart.{is_outside, outside_mute, line_same, within_same, kept_outside, kept_same, at_will_stays, others_stay}

-- ---- what is left

none_less : (m : ℕ) → nat_le 0 m ≡ true
none_less m = grind (arith, nat_tests)

one_less : (n m : ℕ) → nat_le (suc n) (suc m) ≡ nat_le n m
one_less n m = grind (arith, nat_tests)

-- each of the first offers may be taken at will
pub will_of : (n : ℕ) (xs : List Left) (i : ℕ) → are_at_will n xs ≡ true → i < n → slice_get xs i ≡ Some left.AtWill
will_of (suc n) (x ∷ xs) (suc i) all below =
    let parts = and_parts (nat_le (suc n) (suc (length xs))) _ all in
    let rest = (and_parts (is_at_will (Some x)) (are_all_at_will (take n xs)) parts.1).1 in
    will_of n xs i (ap₂ (λ a b. a && b) (sym (one_less n (length xs)) ∙ parts.0) rest) (omega (arith, below))
will_of each e1 e2 all below = grind arith

wills_are : (n : ℕ) (xs : List Left) → ((i : ℕ) → i < n → slice_get xs i ≡ Some left.AtWill) → are_at_will n xs ≡ true
wills_are zero xs each = ap (λ b. b && true) (none_less (length xs))
wills_are (suc n) [] each = absurd (none-some left.AtWill (each 0 (omega arith)))
wills_are (suc n) (x ∷ xs) each =
    let rest = wills_are n xs (λ i below. each (suc i) (omega (arith, below))) in
    let parts = and_parts (nat_le n (length xs)) _ rest in
    ap₂ (λ a b. a && b) (one_less n (length xs) ∙ parts.0) (ap₂ (λ a b. a && b) (ap is_at_will (each 0 (omega arith))) parts.1)

pub wills_stay : (n : ℕ) (xs : List Left) (i : ℕ) → are_at_will n xs ≡ true → are_at_will n (lessened xs i) ≡ true
wills_stay n xs i all = wills_are n (lessened xs i) (λ j below. at_will_kept xs j i (will_of n xs j all below))

pub not_less : (k n : ℕ) → nat_lt k n ≡ false → n ≤ k
not_less k n large = grind (arith, nat_tests)

-- ---- what is offered

pub due_same : (q : Question) (clock due : ℕ) → DueAlike q clock due clock due
due_same q clock due = grind arith

-- a time goes by, an async handle is sent to, or a callback of I/O begins
abbrev IsAside : Event → Type 0
IsAside e = ((ms : ℕ) × (e ≡ Tick ms)) ⊎ (((v : Var) × (e ≡ event.Io v)) ⊎ ((v : Var) × (e ≡ Send v)))

-- no worker does it
aside_ranked : (n : ℕ) (s : State) (e : Event) → IsAside e → ranked (Some n) s (Some e) ≡ Some e
aside_ranked n s e each = grind arith

-- it comes again in a state with the same names where the loop stands in the same place, at the same time, and is blocked as well
module _ (p : Program) (s a : State) (k j : Kept) (idle : owes k ≡ false) (still : owes j ≡ false) (place : a.place ≡ s.place)
    (clock : a.clock ≡ s.clock) (names : a.names ≡ s.names) (arena : a.arena ≡ s.arena)
    (blocked : is_blocked p s ≡ true → is_blocked p a ≡ true) where
  abbrev Again : Offer → Event → Type 0
  Again offer e = (event_of p a j offer ≡ Some e) × IsAside e

  tick_again : (ms : ℕ) (e : Event) → event_of p s k (offers.Step (Tick ms)) ≡ Some e → Again (offers.Step (Tick ms)) e
  tick_again ms e h = grind arith

  io_again : (v : Var) (e : Event) → event_of p s k (offers.Step (event.Io v)) ≡ Some e → Again (offers.Step (event.Io v)) e
  io_again v e h = grind arith

  send_again : (v : Var) (e : Event) → event_of p s k (offers.Step (Send v)) ≡ Some e → Again (offers.Step (Send v)) e
  send_again v e h =
      let made : is_made a (Some v) ≡ is_made s (Some v) = ap (λ (all : List Named). is_some (bound.named all v.0).id) names in
      let seen_there : is_seen a v ≡ is_seen s v =
      (λ i. not (is_quiet (place i)) && not (closes (record s { arena = arena i }) (bound.named (names i) v.0).id)) in
      let later : (if is_made a (Some v) && is_seen a v then Some (Send v) else None) ≡ Some e =
      ap₂ (λ c d. if c && d then Some (Send v) else None) made seen_there ∙ h in
      (later, inr (inr (v, by (is_made s (Some v) && is_seen s v) h)))
    where
      by : (c : Bool) → (if c then Some (Send v) else None) ≡ Some e → e ≡ Send v
      by c g = grind arith

  wait_again : (e : Event) → event_of p s k offers.Wait ≡ Some e → Again offers.Wait e
  wait_again e h =
      let there = by (deadline_at s.place) h in
      (ap (λ x. wait_until p a (deadline_at x)) place ∙ there.0, there.1)
    where
      at : (d : ℕ) (b : Bool) → is_blocked p s ≡ b → (if b then Some (Tick (d - s.clock)) else None) ≡ Some e
          → (wait_until p a (Some d) ≡ Some e) × IsAside e
      at d b is g = grind arith

      by : (o : Option ℕ) → wait_until p s o ≡ Some e → (wait_until p a o ≡ Some e) × IsAside e
      by None g = absurd (none-some e g)
      by (Some d) g = at d (is_blocked p s) refl g

  wait_for_again : (ms : ℕ) (e : Event) → event_of p s k (offers.WaitFor ms) ≡ Some e → Again (offers.WaitFor ms) e
  wait_for_again ms e h = by (may_last s ms) (is_blocked p s) refl refl h where
    lasts : may_last a ms ≡ may_last s ms
    lasts = ap₂ (λ x c. is_in_poll x && ends_within (deadline_at x) c ms) place clock

    by : (b c : Bool) → may_last s ms ≡ b → is_blocked p s ≡ c → (if b then (if c then Some (Tick ms) else None) else None) ≡ Some e
        → Again (offers.WaitFor ms) e
    by b c long is g = grind arith

  comes_again : (offer : Offer) (e : Event) → is_clear_of_takes offer ≡ true → event_of p s k offer ≡ Some e → Again offer e
  comes_again (offers.Step (Send v)) e of h = send_again v e h
  comes_again (offers.WaitFor ms) e of h = wait_for_again ms e h
  comes_again each e of h = grind (arith, tick_again, io_again, send_again, wait_again, wait_for_again)

-- behind a take the loop is blocked where it was
still_blocked : (p : Program) (s a : State) (k : ℕ) (l : Option Seen) → cancels p s ≡ false → next p s (Take k) ≡ Moves a l
    → is_blocked p s ≡ true → is_blocked p a ≡ true
still_blocked p s a k l none goes is = by (next p s Loop) refl is where
  by : (x : Next) → next p s Loop ≡ x → refused_as_blocked x ≡ true → refused_as_blocked (next p a Loop) ≡ true
  by (Moves t line) e f = absurd (let g : false ≡ true = f in cc)
  by (Refuses why) e f = ap refused_as_blocked (take_refuses p s a k l why none goes e) ∙ f

-- where one of the first offers leads on, not none does
one_leads : (r : Rules) (p : Place) (count i : ℕ) (l : Led) → i < count → led r p i ≡ Some l → none_leads r p count ≡ false
one_leads r p zero i l below leads = absurd (omega (arith, below))
one_leads r p (suc count) i l below leads = elim (or_last i count below) [
  | inl same ↦ (grind arith)
  | inr less ↦ ap (λ b. b && is_none (led r p count)) (one_leads r p count i l less leads)
]
  where
    false_behind : (b : Bool) → (b && false) ≡ false
    false_behind b = grind arith

-- the first move is apart where a take is
take_apart : (r : Rules) (s : Spot) → r.at_once ≡ true → is_take_first r s.place ≡ true → apart r s 0 ≡ true
take_apart r s now is = cc

pub spot_is_in : (r : Rules) (q : Spot) (f : Led) → is_few r.forget (length q.steps + 1) ≡ true
    → spot_of r q (Some f) ≡ Some (after_event q f, answers r q.place f)
spot_is_in r q f short = ap (λ c. if◌then◌else◌ {A = Option (Spot × Bool)} c (Some (after_event q f, answers r q.place f)) None) short

module _ (r : Rules) (can : AreOfPool r) (may : CanForget r can.counted) where
  abbrev spot_is : (q : Spot) (f : Led) → is_few r.forget (length q.steps + 1) ≡ true
      → spot_of r q (Some f) ≡ Some (after_event q f, answers r q.place f)
  spot_is q f short = spot_is_in r q f short

  pub count_is : (p : Place) → move_count r p ≡ length r.offers
  count_is p = ap (λ d. move_count_by d (length r.offers) (length p.left)) may.differ

  pub below_count : (p : Place) (i : ℕ) (o : Offered) → slice_get r.offers i ≡ Some o → nat_lt i (move_count r p) ≡ true
  below_count p i o is = ap (nat_lt i) (count_is p) ∙ get_within r.offers i o is

  pub given : (p : Place) (i : ℕ) (o : Offered) → slice_get r.offers i ≡ Some o → event_at r p i ≡ offered_by r p (Some o) (slice_get p.left i)
  given p i o is =
      ap (λ b. if b then offered_by r p (slice_get r.offers i) (slice_get p.left i) else None) (below_count p i o is)
      ∙ ap (λ x. offered_by r p x (slice_get p.left i)) is

  plain : (p : Place) (o : Option Event) → brief r.forget (ranked r.forget p.state (timed r.clock p.state.clock o))
      ≡ brief (Some can.counted) (ranked (Some can.counted) p.state o)
  plain p o = grind arith

  abbrev pub shown : Place → Offer → Option Event
  shown p offer = brief (Some can.counted) (ranked (Some can.counted) p.state (event_of r.program p.state p.kept offer))

  pub at_will_is : (p : Place) (i : ℕ) (offer : Offer) → slice_get r.offers i ≡ Some (at_will offer) → slice_get p.left i ≡ Some left.AtWill
      → event_at r p i ≡ shown p offer
  at_will_is p i offer is will = grind (arith, given, will, plain)

  take_shown : (p : Place) (w : ℕ) → idle_worker p.state ≡ Some w → shown p offers.Take ≡ Some (Take w)
  take_shown p w idle = ap (λ o. brief (Some can.counted) (ranked (Some can.counted) p.state (take_by o))) idle

  pub take_is : (p : Place) (e : Event) → shown p offers.Take ≡ Some e → (w : ℕ) × (idle_worker p.state ≡ Some w) × (e ≡ Take w)
  take_is p e h = grind arith

  loop_shown : (p : Place) → owes p.kept ≡ false → shown p (offers.Step Loop) ≡ Some Loop
  loop_shown p idle = cc

  pub finish_shown : (p : Place) (k j : ℕ) → runner p.state k ≡ Some j → shown p (offers.Step (Finish k)) ≡ Some (Finish j)
  finish_shown p k j is = ap (λ o. brief (Some can.counted) (finish_by o)) is

  pub finish_is : (p : Place) (k : ℕ) (e : Event) → shown p (offers.Step (Finish k)) ≡ Some e → (j : ℕ) × (e ≡ Finish j)
  finish_is p k e h = grind arith

  -- ---- an offer that a take leaves alone

  -- what it is at a place, and that it is the same at one where it is the same event
  record OffersAside (p : Place) (i : ℕ) (o : Offered) (e : Event) : Type 0 where
    comes : event_of r.program p.state p.kept o.offer ≡ Some e
    again : (q : Place) → slice_get q.left i ≡ slice_get p.left i → IsAside e → event_of r.program q.state q.kept o.offer ≡ Some e
        → event_at r q i ≡ Some e

  offers_aside : (p : Place) (i : ℕ) (o : Offered) (e : Event) → slice_get r.offers i ≡ Some o → event_at r p i ≡ Some e
      → ((f : Event) → event_of r.program p.state p.kept o.offer ≡ Some f → IsAside f) → OffersAside p i o e
  offers_aside p i o e is h asides = by (slice_get p.left i) refl (sym (given p i o is) ∙ h) where
    -- what is offered is brief, and of no worker
    event : (x : Option Event) → ((f : Event) → x ≡ Some f → IsAside f) → brief (Some can.counted) (ranked (Some can.counted) p.state x) ≡ Some e
        → x ≡ Some e
    event None aside g = absurd (none-some e g)
    event (Some f) aside g =
        short (is_brief (Some can.counted) f) (ap (brief (Some can.counted)) (sym (aside_ranked can.counted p.state f (aside f refl))) ∙ g)
      where
        short : (b : Bool) → (if b then Some f else None) ≡ Some e → Some f ≡ Some e
        short true k = k
        short false k = absurd (none-some e k)

    -- whatever the place is where the event is the same
    once_more : (q : Place) → IsAside e → event_of r.program q.state q.kept o.offer ≡ Some e → event_of r.program p.state p.kept o.offer ≡ Some e
        → brief (Some can.counted) (ranked (Some can.counted) q.state (event_of r.program q.state q.kept o.offer))
        ≡ brief (Some can.counted) (ranked (Some can.counted) p.state (event_of r.program p.state p.kept o.offer))
    once_more q aside there here =
        ap (λ x. brief (Some can.counted) (ranked (Some can.counted) q.state x)) there
        ∙ ap (brief (Some can.counted)) (aside_ranked can.counted q.state e aside ∙ sym (aside_ranked can.counted p.state e aside))
        ∙ sym (ap (λ x. brief (Some can.counted) (ranked (Some can.counted) p.state x)) here)

    taken_if : (x : Left) (b : Bool) → may_take x ≡ b → slice_get p.left i ≡ Some x
        → brief r.forget (ranked r.forget p.state
        (if b then timed r.clock p.state.clock (event_of r.program p.state p.kept o.offer) else None)) ≡ Some e
        → OffersAside p i o e
    taken_if x false may_not at g = absurd (let f : None ≡ Some e = ap (λ y. brief y (ranked y p.state None)) (sym can.forgets) ∙ g in none-some e f)
    taken_if x true may_be at g =
        let whole : brief (Some can.counted) (ranked (Some can.counted) p.state (event_of r.program p.state p.kept o.offer)) ≡ Some e =
        sym (plain p (event_of r.program p.state p.kept o.offer)) ∙ g in
        let comes = event (event_of r.program p.state p.kept o.offer) asides whole in
        grind arith

    by : (x : Option Left) → slice_get p.left i ≡ x → offered_by r p (Some o) x ≡ Some e → OffersAside p i o e
    by None at g = absurd (none-some e g)
    by (Some x) at g = taken_if x (may_take x) refl at g

  -- ---- what comes beside the take

  module _ (once : CanTakeAtOnce r) (s : Spot) (is : IsSpot r s) (few : is_few r.forget (length s.steps + 2) ≡ true) (now : r.at_once ≡ true)
      (wills : are_at_will (worker_count r.program + 2) s.place.left ≡ true) (idle : owes s.place.kept ≡ false)
      (w : ℕ) (free : idle_worker s.place.state ≡ Some w) (a : State) (l : Option Seen)
      (goes : next r.program s.place.state (Take w) ≡ Moves a l) where
    abbrev by_take : Led
    by_take = led_take r s.place 0 w a l

    abbrev kept_by : Kept → Event → State → Option Seen → Kept
    kept_by k e t line = kept_after r.recorded r.takes r.question k e t line

    will : (i : ℕ) → i < worker_count r.program + 2 → slice_get s.place.left i ≡ Some left.AtWill
    will i below = will_of (worker_count r.program + 2) s.place.left i wills below

    same_left : (i : ℕ) → i < worker_count r.program + 2 → lessened s.place.left i ≡ s.place.left
    same_left i below = at_will_stays s.place.left i (ap is_at_will (will i below))

    first_left : lessened s.place.left 0 ≡ s.place.left
    first_left = same_left 0 (omega arith)

    will_behind : (i : ℕ) → i < worker_count r.program + 2 → slice_get by_take.place.left i ≡ Some left.AtWill
    will_behind i below = ap (λ xs. slice_get xs i) first_left ∙ will i below

    still : (k : Kept) (e : Event) (t : State) (line : Option Seen) → owes k ≡ false → owes (kept_by k e t line) ≡ false
    still k e t line none = grind arith

    idle_behind : owes by_take.place.kept ≡ false
    idle_behind = still s.place.kept (Take w) a l idle

    outside_keeps : (e : Event) (t : State) (line : Option Seen) (k : Kept) → is_outside true e ≡ true → owes k ≡ false → kept_by k e t line ≡ k
    outside_keeps e t line k out none =
        subst (λ ts. kept_after r.recorded ts r.question k e t line ≡ k) (sym can.takes)
        (kept_outside r.recorded r.question k true e t line once.question none out)

    no_cancel : cancels r.program s.place.state ≡ false
    no_cancel = none_cancels r.program once.cancels s.place.state

    leaves : LeavesPlace r.program s.place.state a
    leaves = take_leaves r.program s.place.state a w l goes

    kept_there : (e : Event) (t u : State) (line : Option Seen) (k : Kept) → owes k ≡ false → kept_by k e t line ≡ kept_by k e u line
    kept_there e t u line k none = grind (arith, kept_same)

    -- another move: it is taken behind the take too, by this number, and the take behind it
    record Beside (i : ℕ) (e : Event) (b : State) (m : Option Seen) : Type 0 where
      state : State
      take_after : next r.program b (Take w) ≡ Moves state l
      after_take : next r.program a e ≡ Moves state m
      number : ℕ
      below : nat_lt number (move_count r by_take.place) ≡ true
      again : event_at r by_take.place number ≡ Some e
      left : lessened s.place.left number ≡ lessened s.place.left i

    loop_beside : (e : Event) (b : State) (m : Option Seen) → event_at r s.place 1 ≡ Some e → next r.program s.place.state e ≡ Moves b m
        → Beside 1 e b m
    loop_beside e b m offered comes =
        let here : event_at r s.place 1 ≡ Some Loop =
        at_will_is s.place 1 (offers.Step Loop) once.loop (will 1 (omega arith)) ∙ loop_shown s.place idle in
        subst (λ f. Beside 1 f b m) (same_Some Loop e (sym here ∙ offered))
        (by (subst (λ f. next r.program s.place.state f ≡ Moves b m) (sym (same_Some Loop e (sym here ∙ offered))) comes))
      where
        by : next r.program s.place.state Loop ≡ Moves b m → Beside 1 Loop b m
        by comes =
            let met = takes_apart r.program s.steps s.place.state b a w m l is.state no_cancel comes goes in
            record {
              state = met.state;
              take_after = met.event_after;
              after_take = met.loop_after;
              number = 1;
              below = below_count by_take.place 1 (at_will (offers.Step Loop)) once.loop;
              again = at_will_is by_take.place 1 (offers.Step Loop) once.loop (will_behind 1 (omega arith)) ∙ loop_shown by_take.place idle_behind;
              left = refl;
            }

    finish_beside : (k : ℕ) (e : Event) (b : State) (m : Option Seen) → k < worker_count r.program → event_at r s.place (suc (suc k)) ≡ Some e
        → next r.program s.place.state e ≡ Moves b m → Beside (suc (suc k)) e b m
    finish_beside k e b m below offered comes =
        let at = will (suc (suc k)) (omega (arith, below)) in
        let here = finish_is s.place k e (sym (at_will_is s.place (suc (suc k)) (offers.Step (Finish k)) (can.finishes k below) at) ∙ offered) in
        subst (λ f. Beside (suc (suc k)) f b m) (sym here.1)
        (by here.0 (subst (λ f. next r.program s.place.state f ≡ Moves b m) here.1 comes))
      where
        by : (j : ℕ) → next r.program s.place.state (Finish j) ≡ Moves b m → Beside (suc (suc k)) (Finish j) b m
        by j comes =
            let crossed = takes_finish r.program s.place.state a b w j l m goes comes in
            let done = next_finishes r.program a j crossed.state m crossed.other_after in
            let there = state_behind r s (Take w) a l is goes in
            let steps = s.steps ++ Take w ∷ [] in
            let rank = rank_of a done.id in
            let long : length a.running ≡ worker_count r.program = ap (λ (u : State). length u.running) there ∙ after_long r.program steps in
            let small : rank < worker_count r.program = subst (λ n. rank < n) long (rank_below a j done.id done.runs) in
            let offer = can.finishes rank small in
            record {
              state = crossed.state;
              take_after = crossed.one_after;
              after_take = crossed.other_after;
              number = suc (suc rank);
              below = below_count by_take.place (suc (suc rank)) (at_will (offers.Step (Finish rank))) offer;
              again = at_will_is by_take.place (suc (suc rank)) (offers.Step (Finish rank)) offer
                  (will_behind (suc (suc rank)) (omega (arith, small)))
                  ∙ finish_shown by_take.place rank j (its_rank r.program steps a there j done.id done.runs);
              left = same_left (suc (suc rank)) (omega (arith, small)) ∙ sym (same_left (suc (suc k)) (omega (arith, below)));
            }

    aside_beside : (i : ℕ) (o : Offered) (e : Event) (b : State) (m : Option Seen) → worker_count r.program + 2 ≤ i → slice_get r.offers i ≡ Some o
        → event_at r s.place i ≡ Some e → next r.program s.place.state e ≡ Moves b m → Beside i e b m
    aside_beside i o e b m far there offered comes =
        let of = can.others i o far there in
        let blocked = still_blocked r.program s.place.state a w l no_cancel goes in
        let clock : a.clock ≡ s.place.state.clock = ap (λ (u : State). u.clock) (next_takes r.program s.place.state w a l goes).is in
        let arena : a.arena ≡ s.place.state.arena = ap (λ (u : State). u.arena) (next_takes r.program s.place.state w a l goes).is in
        let again = λ (f : Event) (h : event_of r.program s.place.state s.place.kept o.offer ≡ Some f).
        comes_again r.program s.place.state a s.place.kept by_take.place.kept idle idle_behind leaves.place clock leaves.names arena blocked
        o.offer f of h in
        let asides = offers_aside s.place i o e there offered (λ f h. (again f h).1) in
        let once = again e asides.comes in
        let other : 0 ≡ i → ⊥ = λ same. omega (arith, far, same) in
        by once.1 (asides.again by_take.place (others_stay s.place.left 0 i other) once.1 once.0)
      where
        crossed : (f : Event) → Crosses r.program (Take w) f a b l m → event_at r by_take.place i ≡ Some f → Beside i f b m
        crossed f x again = grind arith

        by : IsAside e → event_at r by_take.place i ≡ Some e → Beside i e b m
        by (inl (ms, tick)) again =
            let ticks = subst (λ f. next r.program s.place.state f ≡ Moves b m) tick comes in
            subst (λ f. Beside i f b m) (sym tick)
            (crossed (Tick ms) (takes_tick r.program s.place.state a b w ms l m goes ticks) (again ∙ ap Some tick))
        by (inr (inr (v, send))) again =
            let sends = subst (λ f. next r.program s.place.state f ≡ Moves b m) send comes in
            subst (λ f. Beside i f b m) (sym send)
            (crossed (Send v) (takes_send r.program s.place.state a b w v l m goes sends) (again ∙ ap Some send))
        by (inr (inl (v, io))) again =
            let begins = subst (λ f. next r.program s.place.state f ≡ Moves b m) io comes in
            subst (λ f. Beside i f b m) (sym io)
            (crossed (event.Io v) (takes_io r.program s.place.state a b w v l m goes begins) (again ∙ ap Some io))

    beside : (i : ℕ) (e : Event) (b : State) (m : Option Seen) → (i ≡ 0 → ⊥) → event_at r s.place i ≡ Some e
        → next r.program s.place.state e ≡ Moves b m → Beside i e b m
    beside zero e b m other offered comes = absurd (other refl)
    beside (suc zero) e b m other offered comes = loop_beside e b m offered comes
    beside (suc (suc k)) e b m other offered comes = by (nat_lt k (worker_count r.program)) refl where
      there : (o : Option Offered) → slice_get r.offers (suc (suc k)) ≡ o → worker_count r.program ≤ k → Beside (suc (suc k)) e b m
      there (Some o) at far = aside_beside (suc (suc k)) o e b m (omega (arith, far)) at offered comes
      there None at far = grind arith

      by : (c : Bool) → nat_lt k (worker_count r.program) ≡ c → Beside (suc (suc k)) e b m
      by true small = finish_beside k e b m (ltb-true k (worker_count r.program) small) offered comes
      by false large = there (slice_get r.offers (suc (suc k))) refl (not_less k (worker_count r.program) large)

    -- ---- both moves, in both orders

    module _ (i : ℕ) (other : i ≡ 0 → ⊥) (e : Event) (b : State) (m : Option Seen) (offered : event_at r s.place i ≡ Some e)
        (comes : next r.program s.place.state e ≡ Moves b m) (bound : is_within r.most b ≡ true) where
      x : Beside i e b m
      x = beside i e b m other offered comes

      abbrev by_other : Led
      by_other = record { event = e; place = taken r (record { event = e; left = lessened s.place.left i; kept = s.place.kept }) b m; line = m }

      abbrev behind_other : Spot
      behind_other = after_event s by_other

      few_one : is_few r.forget (length s.steps + 1) ≡ true
      few_one = fewer r r.forget (length s.steps + 1) (length s.steps + 2) (omega arith) few

      few_behind : (l : Led) → is_few r.forget (length (after_event s l).steps + 1) ≡ true
      few_behind l = grind (arith, length, length-append)

      led_other : led r s.place i ≡ Some by_other
      led_other = led_is r may.differ s.place i e b m bound offered comes

      spot_other : IsSpot r behind_other
      spot_other = leads_spot r s by_other is (led_leads r s.place i by_other led_other) few_one

      idle_other : owes by_other.place.kept ≡ false
      idle_other = still s.place.kept e b m idle

      wills_other : are_at_will (worker_count r.program + 2) by_other.place.left ≡ true
      wills_other = wills_stay (worker_count r.program + 2) s.place.left i wills

      will_other : slice_get by_other.place.left 0 ≡ Some left.AtWill
      will_other = will_of (worker_count r.program + 2) by_other.place.left 0 wills_other (omega arith)

      -- the take behind the other move, by the worker that is the first idle one then
      taking : Takes b w x.state l
      taking = next_takes r.program b w x.state l x.take_after

      abbrev none : Option Id → Bool
      none run = is_none run

      first_idle : (k : ℕ) × (idle_worker b ≡ Some k)
      first_idle = first_some none b.running 0 w None taking.idle refl

      abbrev v : ℕ
      v = first_idle.0

      idle_there : slice_get b.running v ≡ Some None
      idle_there = grind (arith, first_at, is_none)

      abbrev taken_by : State
      taken_by = record b { waiting = drop 1 b.waiting; running = slice_set b.running v (Some taking.id) }

      abbrev said : Option Seen
      said = Some (seen.Take v taking.request.name taking.id)

      takes_there : next r.program b (Take v) ≡ Moves taken_by said
      takes_there = take_next r.program b v taking.id taking.request idle_there taking.front

      abbrev last : Led
      last = led_take r by_other.place 0 v taken_by said

      -- as if that worker took it which did before the other move
      abbrev middle : Led
      middle = led_take r by_other.place 0 w x.state l

      abbrev end : Led
      end = record {
        event = e;
        place = taken r (record { event = e; left = lessened by_take.place.left x.number; kept = by_take.place.kept }) x.state m;
        line = m;
      }

      led_last : led r by_other.place 0 ≡ Some last
      led_last = led_is r may.differ by_other.place 0 (Take v) taken_by said (within_same taken_by b refl r.most ∙ bound)
          (at_will_is by_other.place 0 offers.Take once.take will_other ∙ take_shown by_other.place v first_idle.1) takes_there

      names : x.state.names ≡ b.names
      names = (take_leaves r.program b x.state w l x.take_after).names

      led_end : led r by_take.place x.number ≡ Some end
      led_end = led_is r may.differ by_take.place x.number e x.state m (within_same x.state b names r.most ∙ bound) x.again x.after_take

      spot_last : IsSpot r (after_event behind_other last)
      spot_last = leads_spot r behind_other last spot_other (led_leads r by_other.place 0 last led_last) (few_behind by_other)

      spot_middle : IsSpot r (after_event behind_other middle)
      spot_middle = record {
        state = state_behind r behind_other (Take w) x.state l spot_other x.take_after;
        forgets = spot_other.forgets;
        brief = brief_more r.forget behind_other.steps (Take w) spot_other.brief (grind arith);
        few = ap (is_few r.forget) (length_more behind_other.steps (Take w)) ∙ few_behind by_other;
      }

      itself : AreAlike r can.counted by_other.place by_other.place
      itself = grind arith

      alike : (spot_code r (after_event behind_other last) ≡ spot_code r (after_event behind_other middle))
          × (answers r by_other.place last ≡ answers r by_other.place middle)
      alike = takes_cover r can.counted can.forgets may behind_other behind_other spot_other spot_other (few_behind by_other) itself 0 v w
          taken_by x.state said l
          (run_at b v None idle_there ∙ sym (run_at b w None taking.idle))
          takes_there x.take_after spot_last spot_middle

      one_place : middle.place ≡ end.place
      one_place =
          let lefts : lessened by_other.place.left 0 ≡ lessened by_take.place.left x.number =
          at_will_stays by_other.place.left 0 (ap is_at_will will_other) ∙ sym x.left ∙ ap (λ xs. lessened xs x.number) (sym first_left) in
          let kept : kept_by by_other.place.kept (Take w) x.state l ≡ kept_by by_take.place.kept e x.state m =
          outside_keeps (Take w) x.state l by_other.place.kept refl idle_other ∙ kept_there e b x.state m s.place.kept idle
          ∙ ap (λ k. kept_by k e x.state m) (sym (outside_keeps (Take w) a l s.place.kept refl idle)) in
          λ j. record { state = x.state; left = lefts j; kept = kept j }

      -- ---- what is answered

      last_by_place : answers r by_other.place last ≡ place_answers r end.place r.question
      last_by_place =
          let mute = outside_mute r.program b x.state l true (Take w) refl x.take_after r.program r.question by_other.place.kept.due x.state in
          alike.1 ∙ ap (λ c. if c then true else place_answers r middle.place r.question) mute
          ∙ ap (λ p. place_answers r p r.question) one_place

      line_later : line_answers r.program r.question s.place.kept.due b m ≡ line_answers r.program r.question by_take.place.kept.due x.state m
      line_later = line_same r.program r.question s.place.kept.due by_take.place.kept.due b x.state (sym names) once.question m

      place_later : place_answers r by_other.place r.question ≡ true → place_answers r end.place r.question ≡ true
      place_later = by r.question where
        by : (q : Question) → place_answers r by_other.place q ≡ true → place_answers r end.place q ≡ true
        by (asks.Never name) h =
            let there = (take_leaves r.program b x.state w l x.take_after).place in
            ap₂ (λ p ns. has_ended r.program p && is_uncalled (record b { names = ns }) name) there names ∙ h
        by asks.Stuck h =
            let parts = and_parts (is_blocked r.program b) (none_leads r by_other.place (move_count r by_other.place)) h in
            let leads = one_leads r by_other.place (move_count r by_other.place) 0 last
            (ltb-true 0 (move_count r by_other.place) (below_count by_other.place 0 (at_will offers.Take) once.take)) led_last in
            absurd (let f : true ≡ false = sym parts.1 ∙ leads in cc)
        by (asks.Call which name n) h = absurd (let f : false ≡ true = h in cc)
        by (asks.Code code name) h = absurd (let f : false ≡ true = h in cc)
        by (asks.Section word) h = absurd (let f : false ≡ true = h in cc)
        by asks.Poll h = absurd (let f : false ≡ true = h in cc)
        by (asks.Late name ms) h = absurd (let f : false ≡ true = h in cc)
        by (asks.Before name before) h = absurd (let f : false ≡ true = h in cc)
        by (asks.Behind name before) h = absurd (let f : false ≡ true = h in cc)

      -- what the other move answers before the take, or the take behind it, the other move answers behind the take
      end_answers : (answers r s.place by_other || answers r by_other.place last) ≡ true → answers r by_take.place end ≡ true
      end_answers h = by (line_answers r.program r.question s.place.kept.due b m) (place_answers r by_other.place r.question)
          (place_answers r end.place r.question) (line_answers r.program r.question by_take.place.kept.due x.state m) line_later place_later
          (ap (λ d. answers r s.place by_other || d) (sym last_by_place) ∙ h)
        where
          by : (f g h k : Bool) → f ≡ k → (g ≡ true → h ≡ true) → ((if f then true else g) || h) ≡ true → (if k then true else h) ≡ true
          by f g h k same later is = grind arith

      either_is : (c d : Bool) → d ≡ true → (c || d) ≡ true
      either_is c d is = grind arith

      pub meeting : Meet (λ (q : Spot). move_count r q.place) (next_spot r) (spot_code r) (apart r) (after_event s by_take)
          (answers r s.place by_take) behind_other (answers r s.place by_other)
      meeting = record {
        last = after_event behind_other last;
        end = after_event (after_event s by_take) end;
        d = answers r by_other.place last;
        e = answers r by_take.place end;
        late = 0;
        offered = ltb-true 0 (move_count r by_other.place) (below_count by_other.place 0 (at_will offers.Take) once.take);
        goes = ap (spot_of r behind_other) led_last ∙ spot_is behind_other last (few_behind by_other);
        behind = x.number;
        stays = ltb-true x.number (move_count r by_take.place) x.below;
        comes = ap (spot_of r (after_event s by_take)) led_end ∙ spot_is (after_event s by_take) end (few_behind by_take);
        same = alike.0 ∙ ap (λ p. spot_code r (record { place = p; steps = [] })) one_place;
        answers = λ h. either_is (answers r s.place by_take) (answers r by_take.place end) (end_answers h);
        still = take_apart r behind_other now (ap₂ (λ c d. c && d) now (ap₂ (λ c d. c && not d) wills_other idle_other));
      }

-- where a take is apart, each other move meets it
take_meets : (r : Rules) (n : ℕ) (s : Spot) (i : ℕ) → HasRoom r (suc (suc n)) s → is_take_first r s.place ≡ true
    → i < move_count r s.place → (i ≡ 0 → ⊥)
    → IsApart (λ (q : Spot). move_count r q.place) (next_spot r) (spot_code r) (apart r) s 0 i
take_meets r n s i room first below other m q b c goes comes =
    let parts = and_parts r.at_once _ first in
    let once = room.holds.behind_take parts.0 in
    let can = once.of_pool in
    let may = room.spot.forgets can.counted can.forgets in
    let both = and_parts (are_at_will (worker_count r.program + 2) s.place.left) _ parts.1 in
    let few = fewer r r.forget (length s.steps + 2) (length s.steps + suc (suc n)) (omega arith) room.few in
    let one = move_is r s m 0 b goes in
    let two = move_is r s q i c comes in
    let x = is_led r may.differ s.place 0 one.0 one.1.0 in
    let y = is_led r may.differ s.place i two.0 two.1.0 in
    let will = will_of (worker_count r.program + 2) s.place.left 0 both.0 (omega arith) in
    let take = take_is r can may s.place x.event (sym (at_will_is r can may s.place 0 offers.Take once.take will) ∙ x.offered) in
    let goes_on = subst (λ e. next r.program s.place.state e ≡ Moves x.state x.line) take.2 x.goes in
    let met = meeting r can may once s room.spot few parts.0 both.0 (not_true (owes s.place.kept) both.1) take.0 take.1 x.state x.line goes_on
    i other y.event y.state y.line y.offered y.goes y.within in
    let by_take : one.0 ≡ led_take r s.place 0 take.0 x.state x.line = x.is ∙ (λ j. record {
      event = take.2 j;
      place = taken r (record { event = take.2 j; left = lessened s.place.left 0; kept = s.place.kept }) x.state x.line;
      line = x.line;
    }) in
    let M = λ (f g : Led). Meet (λ (w : Spot). move_count r w.place) (next_spot r) (spot_code r) (apart r) (after_event s f) (answers r s.place f)
    (after_event s g) (answers r s.place g) in
    meet_by r s m q b c one.0 two.0 one.1.1 one.1.2 two.1.1 two.1.2
    (subst (λ f. M f two.0) (sym by_take) (subst (λ g. M (led_take r s.place 0 take.0 x.state x.line) g) (sym y.is) met))

-- where a move is apart, each other one meets it
pub apart_meets : (r : Rules) (n : ℕ) (s : Spot) (k i : ℕ) → HasRoom r (suc (suc n)) s → apart r s k ≡ true → k < move_count r s.place
    → i < move_count r s.place → (i ≡ k → ⊥)
    → IsApart (λ (q : Spot). move_count r q.place) (next_spot r) (spot_code r) (apart r) s k i
apart_meets r n s k i room first offered below other = by (k == loop_number r.at_once) refl first where
  by : (b : Bool) → (k == loop_number r.at_once) ≡ b
      → (if b then is_loop_first r s.place else ((k == 0) && is_take_first r s.place)) ≡ true
      → IsApart (λ (q : Spot). move_count r q.place) (next_spot r) (spot_code r) (apart r) s k i
  by true is h =
      let same = eqb-true k (loop_number r.at_once) is in
      subst (λ j. IsApart (λ (q : Spot). move_count r q.place) (next_spot r) (spot_code r) (apart r) s j i) (sym same)
      (loop_meets r n s i room h below (λ e. other (e ∙ sym same)))
  by false is h = grind (arith, and_parts, eqb-true, take_meets)

-- Places of whose states the same is told, with as much left and kept, go on alike.
use Rattle.uv_find.proofs.Names.{◌≡◌, ℕ, ◌+◌, ◌<◌, ◌≤◌, ◌&&◌, not, Bool, true, false, List, [], ◌∷◌, length, Option, Some, None, inl, inr, nat_le, refl, ap, ap₂, sym, subst, ◌∙◌, arith, if◌then◌else◌, ltb-true, Event, Loop, Take, Finish, Send, Tick, Id, Var, Callback, Seen, held, Content, Program, arena_size, LATEST, Next, State, named, ClockFits, IsShort, told_line, IsRegular, LeadsRegular, StepsAlike, NextAlike, is_of_worker, next_by, AreDeclared, tale, Reads, reads_alike, Most, Offer, Offered, Question, Kept, Left, LONG, LONGEST, is_common, most_end, due_under, due_else, due_in, kept_due, Rules, Place, aim, is_made, is_free, spending, step_of, is_blocked, refused_as_blocked, deadline_at, wait_until, take_by, may_last, ends_within, is_in_poll, wait_for, idle_worker, ranked, is_in_timers, is_quiet, event_of, timed, is_brief, brief, offered_by, is_called_within, is_within, Spot, CanForget, IsSpot, is_few}
use Rattle.uv_ids.specs.declared.seen.Callback.TheVariants as callback
use Rattle.uv_model.specs.After.{after}
use Rattle.uv_model.specs.Next.{next}
use Rattle.uv_shift.proofs.Reached.{after_timed}
use Rattle.uv_generations.proofs.Reached.{after_young}
use Rattle.uv_slots.proofs.Keeping.{after_can}
use Rattle.uv_slots.proofs.Reached.{after_tidy}
use Rattle.uv_tale.proofs.Steps as laws
use Rattle.uv_asking.specs.declared.asking.Offer.TheVariants as offers
use Rattle.uv_asking.specs.declared.asking.Question.TheVariants as asks
use Rattle.uv_find.proofs.Clocks.{after_clock}
use Rattle.uv_find.proofs.Led.{length_more, state_behind}
use Rattle.uv_find.proofs.Lines.{plain_line}
use Rattle.uv_find.proofs.Runners.{EventsAlike, OffersAlike, finishes_alike, takes_alike}
use Rattle.uv_find.proofs.Readings.{is_bound, reads_bound, is_shut, reads_shut, count, reads_count, reads_quiet, reads_timers, until, wait_of, reads_wait, reads_in_poll, Waits, lag_by, lag_of, lag_under, lag, reads_lag}
use Rattle.uv_find.proofs.Readings as readings

-- of a timer that is asked about it is the same how late the clock is for what is kept of it
abbrev pub DueAlike : Question → ℕ → ℕ → ℕ → ℕ → Type 0
DueAlike (asks.Late name ms) clock due other_clock other_due = clock + other_due ≡ other_clock + due
DueAlike question clock due other_clock other_due = due ≡ other_due

pub record AreAlike (r : Rules) (n : ℕ) (p q : Place) : Type 0 where
  pub state : tale n p.state ≡ tale n q.state
  pub left : p.left ≡ q.left
  pub owed : p.kept.owed ≡ q.kept.owed
  pub along : p.kept.along ≡ q.kept.along
  pub due : DueAlike r.question p.state.clock p.kept.due q.state.clock q.kept.due

-- ---- steps that are alike

-- they lead to states of which the same is told, with lines that are the same except for what no question asks for
abbrev pub GoesAlike : Program → ℕ → State → State → State → State → Option Seen → Option Seen → Type 0
GoesAlike p n s t a b line other = StepsAlike (tale n) (plain_line p) s t a b line other

abbrev pub NextGoes : Program → ℕ → State → State → Next → Next → Type 0
NextGoes p n s t x y = NextAlike (tale n) (plain_line p) s t x y

others_go : (p : Program) (n : ℕ) (s t : State) (x y : Next) → NextAlike (tale n) (told_line p) s t x y → NextGoes p n s t x y
others_go p n s t each e5 h = grind arith

worker_goes : (p : Program) (n : ℕ) (s t : State) (k : ℕ) (x y : Next) → NextAlike (tale n) (told_line p) s t (next_by k x) y
    → NextGoes p n s t x y
worker_goes p n s t k each e6 h = grind arith

-- ---- what holds of each spot

-- the state is regular, as is each that an event leads to, and no brief event takes the clock to its limit
pub record IsGoing (p : Program) (n : ℕ) (q : Place) : Type 0 where
  pub regular : IsRegular p q.state
  pub fits : (e : Event) → is_brief (Some n) e ≡ true → ClockFits q.state e
  pub leads : (e : Event) → LeadsRegular p (next p q.state e)

pub are_regular : (p : Program) (es : List Event) → AreDeclared p → IsShort LONG p → LONGEST < (arena_size p).last_generation → length es ≤ LONGEST
    → IsRegular p (after p es)
are_regular p es declares short lasts few = record {
  timed = after_timed p LONG es (omega arith) (omega arith) short;
  young = after_young p es (omega (arith, few, lasts));
  tidy = after_tidy p es declares (omega (arith, few, lasts));
  buries = after_can p (arena_size p).slots es (omega arith);
}

module _ (r : Rules) (n : ℕ) (forget : r.forget ≡ Some n) (can : CanForget r n) where
  few_steps : (s : Spot) → IsSpot r s → length s.steps < LONGEST
  few_steps s is = ltb-true (length s.steps) LONGEST (subst (λ (o : Option ℕ). is_few o (length s.steps) ≡ true) forget is.few)

  pub regular_by : (s : State) (es : List Event) → s ≡ after r.program es → length es ≤ LONGEST → IsRegular r.program s
  regular_by s es is few = subst (IsRegular r.program) (sym is) (are_regular r.program es can.declares can.short can.lasts few)

  pub spot_regular : (s : Spot) → IsSpot r s → IsRegular r.program s.place.state
  spot_regular s is =
      let few = few_steps s is in
      regular_by s.place.state s.steps is.state (omega (arith, few))

  spot_clock : (s : Spot) → IsSpot r s → s.place.state.clock + LONG ≤ LATEST
  spot_clock s is = grind (arith, few_steps, after_clock)

  -- a brief event doesn't take the clock to its limit
  pub spot_fits : (s : Spot) (e : Event) → IsSpot r s → is_brief (Some n) e ≡ true → ClockFits s.place.state e
  spot_fits s each is short = grind (arith, spot_clock, ltb-true)

  -- a step from a place leads to what is regular
  leads_regular : (w : Spot) → IsSpot r w → (e : Event) → LeadsRegular r.program (next r.program w.place.state e)
  leads_regular w is e = grind (arith, few_steps, length_more, regular_by, state_behind)

  pub spot_going : (s : Spot) → IsSpot r s → IsGoing r.program n s.place
  spot_going s is = record { regular = spot_regular s is; fits = λ e. spot_fits s e is; leads = leads_regular s is }

  -- ---- what is read

  module _ (a b : State) (ra : IsRegular r.program a) (rb : IsRegular r.program b) (same : tale n a ≡ tale n b) where
    pub both : {X : Type 0} (R : State → X) → Reads n R → R a ≡ R b
    both R reads = reads_alike n R r.program reads a b ra rb same

    made_alike : (o : Option Var) → is_made a o ≡ is_made b o
    made_alike None = refl
    made_alike (Some v) = both (is_bound v) (reads_bound n v)

    within_one : (most : Most) → most.calls < n → is_called_within a most ≡ is_called_within b most
    within_one most below =
        let f : ℕ → Bool = λ c. nat_le c most.calls in
        let same_calls = λ (kind : Callback). both (λ s. f (count kind most.name s))
        (reads_count f n (grind arith) kind most.name) in
        λ i. same_calls callback.Handle i && same_calls callback.After i && same_calls callback.Close i

    pub within_alike : (most : List Most) → most_end most ≤ n → is_within most a ≡ is_within most b
    within_alike [] below = refl
    within_alike (m ∷ ms) below = ap₂ (λ x y. x && y) (within_one m (omega (arith, below))) (within_alike ms (omega (arith, below)))

    -- ---- when the timer is due that is asked about

    abbrev DueBy : Waits → ℕ → ℕ → ℕ → ℕ → Type 0
    DueBy (readings.due ago ahead) clock was other is = clock + ahead ≡ is + ago
    DueBy readings.idle clock was other is = is ≡ other
    DueBy readings.waits clock was other is = is ≡ was
    DueBy readings.none clock was other is = is ≡ clock

    due_content : (clock was other : ℕ) (o : Option Content) → DueBy (lag_of clock o) clock was other (due_in o was other clock)
    due_content clock was other each = grind arith

    due_by_lag : (s : State) (was : ℕ) (o : Option Id) → DueBy (lag_under s o) s.clock was (due_else s was) (due_under s o was)
    due_by_lag s was o = grind (arith, due_content, held)

    by_lag : (l : Waits) (x y u v o p d e : ℕ) → DueBy l x u o d → DueBy l y v p e → x + v ≡ y + u → x + p ≡ y + o → x + e ≡ y + d
    by_lag each x y u v o p d e h k same others = grind arith

    else_by : (in_timers : Bool) (x y d e : ℕ) → x + e ≡ y + d → x + (if in_timers then e else y) ≡ y + (if in_timers then d else x)
    else_by in_timers x y d e same = grind arith

    else_alike : (d e : ℕ) → a.clock + e ≡ b.clock + d → a.clock + due_else b e ≡ b.clock + due_else a d
    else_alike d e same =
        let timers = both (λ s. is_in_timers s.place) (reads_timers n) in
        subst (λ x. a.clock + (if x then e else b.clock) ≡ b.clock + due_else a d) timers (else_by (is_in_timers a.place) a.clock b.clock d e same)

    -- the due times are relative to the clocks
    due_alike : (name : Var) (d e : ℕ) → a.clock + e ≡ b.clock + d →
        a.clock + due_under b (named b name).id e ≡ b.clock + due_under a (named a name).id d
    due_alike name d e same =
        let lags = both (lag name) (reads_lag n name) in
        by_lag (lag name a) a.clock b.clock d e (due_else a d) (due_else b e) (due_under a (named a name).id d)
        (due_under b (named b name).id e) (due_by_lag a d (named a name).id)
        (grind (arith, named, due_by_lag)) same (else_alike d e same)

    pub kept_due_alike : (question : Question) (d e : ℕ) → DueAlike question a.clock d b.clock e →
        DueAlike question a.clock (kept_due question a d) b.clock (kept_due question b e)
    kept_due_alike (asks.Late name ms) d e same = due_alike name d e same
    kept_due_alike (asks.Call which name call) d e same = same
    kept_due_alike (asks.Code code name) d e same = same
    kept_due_alike (asks.Section word) d e same = same
    kept_due_alike asks.Poll d e same = same
    kept_due_alike (asks.Never name) d e same = same
    kept_due_alike asks.Stuck d e same = same
    kept_due_alike (asks.Before name other) d e same = same
    kept_due_alike (asks.Behind name other) d e same = same

  -- ---- what is offered

  module _ (s t : Place) (hs : IsGoing r.program n s) (ht : IsGoing r.program n t) (alike : AreAlike r n s t) where
    abbrev a : State
    a = s.state

    abbrev b : State
    b = t.state

    abbrev k : Kept
    k = s.kept

    abbrev l : Kept
    l = t.kept

    same_read : {X : Type 0} (R : State → X) → Reads n R → R a ≡ R b
    same_read R reads = both a b hs.regular ht.regular alike.state R reads

    blocked_by : (x y : Next) → NextGoes r.program n a b x y → refused_as_blocked x ≡ refused_as_blocked y
    blocked_by each e1 h = grind arith

    -- events that do alike lead on alike
    pub goes_alike : (e f : Event) → EventsAlike a b e f → is_brief (Some n) e ≡ true
        → NextGoes r.program n a b (next r.program a e) (next r.program b f)
    goes_alike e f (inl h) short =
        let ra = hs.regular in
        let rb = ht.regular in
        subst (λ g. NextGoes r.program n a b (next r.program a e) (next r.program b g)) h.0
        (others_go r.program n a b (next r.program a e) (next r.program b e)
        (laws.others_alike r.program n a b can.before ra rb alike.state e h.1 (hs.fits e short) (ht.fits e short) (hs.leads e)
        (ht.leads e)))
    goes_alike e f (inr (inl h)) short =
        let ra = hs.regular in
        let rb = ht.regular in
        subst (λ x. NextGoes r.program n a b (next r.program a x) (next r.program b f)) (sym h.one)
        (subst (λ y. NextGoes r.program n a b (next r.program a (Take h.worker)) (next r.program b y)) (sym h.two)
        (worker_goes r.program n a b h.other (next r.program a (Take h.worker)) (next r.program b (Take h.other))
        (laws.takes_alike r.program n a b can.before ra rb alike.state h.worker h.other h.same (hs.leads (Take h.worker))
        (ht.leads (Take h.other)))))
    goes_alike e f (inr (inr h)) short =
        let ra = hs.regular in
        let rb = ht.regular in
        subst (λ x. NextGoes r.program n a b (next r.program a x) (next r.program b f)) (sym h.one)
        (subst (λ y. NextGoes r.program n a b (next r.program a (Finish h.worker)) (next r.program b y)) (sym h.two)
        (worker_goes r.program n a b h.other (next r.program a (Finish h.worker)) (next r.program b (Finish h.other))
        (laws.finishes_alike r.program n a b can.before ra rb alike.state h.worker h.other h.same (hs.leads (Finish h.worker))
        (ht.leads (Finish h.other)))))

    pub blocked_alike : is_blocked r.program a ≡ is_blocked r.program b
    blocked_alike = blocked_by (next r.program a Loop) (next r.program b Loop) (goes_alike Loop Loop (inl (refl, refl)) refl)

    free_alike : (e : Event) → is_free a k e ≡ is_free b l e
    free_alike (Send v) =
        ap₂ (λ x y. not x && not y) (same_read (λ u. is_quiet u.place) (reads_quiet n)) (same_read (is_shut v) (reads_shut n v))
    free_alike each = grind arith

    spending_alike : (e : Event) → spending k e ≡ spending l e
    spending_alike each = grind arith

    step_alike : (e : Event) → step_of a k e ≡ step_of b l e
    step_alike e = grind (arith, made_alike, free_alike, spending_alike)

    abbrev waits : Bool → Option ℕ → Option Event
    waits blocked None = None
    waits blocked (Some ms) = if blocked then Some (Tick ms) else None

    waits_is : (u : State) (deadline : Option ℕ) → wait_until r.program u deadline ≡ waits (is_blocked r.program u) (until u.clock deadline)
    waits_is u deadline = grind arith

    wait_alike : wait_until r.program a (deadline_at a.place) ≡ wait_until r.program b (deadline_at b.place)
    wait_alike =
        waits_is a (deadline_at a.place) ∙ ap₂ waits blocked_alike (same_read wait_of (reads_wait n)) ∙ sym (waits_is b (deadline_at b.place))

    abbrev within : Option ℕ → ℕ → Bool
    within None ms = true
    within (Some left) ms = nat_le ms left

    within_is : (clock : ℕ) (deadline : Option ℕ) (ms : ℕ) → ends_within deadline clock ms ≡ within (until clock deadline) ms
    within_is clock deadline ms = grind arith

    lasts_alike : (ms : ℕ) → may_last a ms ≡ may_last b ms
    lasts_alike ms =
        ap₂ (λ x y. x && y) (same_read (λ u. is_in_poll u.place) (reads_in_poll n)) (
        within_is a.clock (deadline_at a.place) ms ∙ ap (λ o. within o ms) (same_read wait_of (reads_wait n))
        ∙ sym (within_is b.clock (deadline_at b.place) ms)
        )

    wait_for_alike : (ms : ℕ) → wait_for r.program a ms ≡ wait_for r.program b ms
    wait_for_alike ms = ap₂ (λ x y. if x then (if y then Some (Tick ms) else None) else None) (lasts_alike ms) blocked_alike

    -- ---- ranks

    takes_both : OffersAlike a b (take_by (idle_worker a)) (take_by (idle_worker b))
    takes_both = takes_alike n r.program a b hs.regular ht.regular alike.state

    take_same : (u : State) (o : Option ℕ) → ranked (Some n) u (take_by o) ≡ take_by o
    take_same u o = grind arith

    spends : (e : Event) → is_of_worker e ≡ false → is_of_worker (spending k e) ≡ false
    spends each other = grind arith

    other_step : (e : Event) → is_of_worker e ≡ false
        → OffersAlike a b (ranked (Some n) a (step_of a k e)) (ranked (Some n) b (step_of b l e))
    other_step e other =
        subst (λ o. OffersAlike a b (ranked (Some n) a (step_of a k e)) (ranked (Some n) b o)) (step_alike e)
        (by (is_made a (aim e) && is_free a k e))
      where
        by : (may : Bool) → OffersAlike a b (ranked (Some n) a (if may then Some (spending k e) else None))
            (ranked (Some n) b (if may then Some (spending k e) else None))
        by may = grind arith

    stepped : (e : Event) → is_common (offers.Step e) ≡ true
        → OffersAlike a b (ranked (Some n) a (step_of a k e)) (ranked (Some n) b (step_of b l e))
    stepped (Take worker) h = absurd (let g : false ≡ true = h in cc)
    stepped each h = search (finishes_alike, other_step)

    waited : (blocked : Bool) (ms : Option ℕ)
        → OffersAlike a b (ranked (Some n) a (waits blocked ms)) (ranked (Some n) b (waits blocked ms))
    waited each e1 = grind arith

    event_alike : (offer : Offer) → is_common offer ≡ true →
        OffersAlike a b (ranked (Some n) a (event_of r.program a k offer)) (ranked (Some n) b (event_of r.program b l offer))
    event_alike (offers.WaitFor ms) h =
        subst (λ y. OffersAlike a b (ranked (Some n) a (wait_for r.program a ms)) (ranked (Some n) b y)) (wait_for_alike ms)
        (by (may_last a ms) (is_blocked r.program a))
      where
        by : (x y : Bool) → OffersAlike a b (ranked (Some n) a (if x then (if y then Some (Tick ms) else None) else None))
            (ranked (Some n) b (if x then (if y then Some (Tick ms) else None) else None))
        by true true = inl (refl, refl)
        by true false = tt
        by false y = tt
    event_alike each h = grind (arith, stepped, take_same, takes_both, waits_is, wait_alike, waited, wait_for_alike)

    -- ---- within the bounds

    brief_is : (e f : Event) → EventsAlike a b e f → is_brief (Some n) e ≡ is_brief (Some n) f
    brief_is e f each = grind arith

    brief_alike : (x y : Option Event) → OffersAlike a b x y → OffersAlike a b (brief (Some n) x) (brief (Some n) y)
    brief_alike each e1 h = grind arith

    unbounded : (clock : ℕ) (o : Option Event) → timed None clock o ≡ o
    unbounded clock o = grind arith

    pub offered_alike : (offered : Option Offered) (x : Option Left) → ((o : Offered) → offered ≡ Some o → is_common o.offer ≡ true) →
        OffersAlike a b (offered_by r s offered x) (offered_by r t offered x)
    offered_alike each e1 common = grind (arith, timed, unbounded, brief_alike, event_alike)

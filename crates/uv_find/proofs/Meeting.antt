-- Two moves from a place where the first is apart: made in either order they meet.
use Rattle.uv_find.proofs.Names.{◌≡◌, ℕ, suc, ◌+◌, ◌<◌, ◌&&◌, ◌||◌, not, Bool, true, false, List, [], ◌∷◌, length, length-append, nat_lt, slice_get, refl, sym, ap, ap₂, subst, ◌∙◌, Option, Some, None, if◌then◌else◌, arith, and_parts, ltb-true, same_Some, Event, Loop, Seen, State, Next, Moves, Refuses, reads_clock, is_apart, Meets, LeavesPlace, loop_keeps, ticks_apart, takes_apart, finishes_apart, tick_leaves, take_leaves, finish_leaves, Meet, IsApart, CoversMoves, Step, Offered, Kept, Left, can_meet, is_loop_apart, is_at_will, loop_number, may_take_io, kept_after, owes, Rules, Place, Choice, Led, led, led_by, placed, chosen, offered_by, may_take, event_of, timed, keeps_clock, brief, is_brief, at_will, taken, reached, is_within, lessened, move_count, move_count_by, keys_run, ranked, answers, line_answers, place_answers, Spot, CanHold, next_spot, spot_of, spot_code, apart, apart_by, is_loop_first, is_few, IsSpot, IsStanding, HasRoom, IsTold}
use Rattle.uv_ids.specs.declared.event.Event.TheVariants as event
use Rattle.uv_model.specs.Next.{next}
use Rattle.uv_apart.proofs.Cancels.{apart_cancels}
use Rattle.uv_find.proofs.Keys.{keys_stay}
use Rattle.uv_find.proofs.Led.{event_at, choice_is, spots_lead}
use Rattle.uv_find.proofs.Covering.{spots_alike}
use Rattle.uv_find.proofs.Moving.{after_event, move_is, fewer}
use Rattle.uv_find.proofs.Apart.{is_outside, may_come, comes_outside, ranked_outside, ranked_same, event_stays, outside_mute, line_same, within_same, place_mute, kept_outside, kept_same, still_idle, will_is, at_will_stays, others_stay}

-- ---- what a move is made of

-- the event of an offer, and where the loop's answer leads
pub record IsLed (r : Rules) (p : Place) (n : ℕ) (l : Led) : Type 0 where
  pub event : Event
  pub state : State
  pub line : Option Seen
  pub offered : event_at r p n ≡ Some event
  pub goes : next r.program p.state event ≡ Moves state line
  -- within the bounds
  pub within : is_within r.most state ≡ true
  pub is : l ≡ record { event = event; place = taken r (record { event = event; left = lessened p.left n; kept = p.kept }) state line; line = line }

module _ (r : Rules) (differ : r.differ ≡ None) (p : Place) (n : ℕ) where
  abbrev choice : Event → Choice
  choice e = record { event = e; left = lessened p.left n; kept = p.kept }

  pub is_led : (l : Led) → led r p n ≡ Some l → IsLed r p n l
  is_led l h = by (event_at r p n) refl (ap (led_by r p) (sym (choice_is r differ p n)) ∙ h) where
    within : (e : Event) (t : State) (line : Option Seen) (b : Bool) → is_within r.most t ≡ b → event_at r p n ≡ Some e
        → next r.program p.state e ≡ Moves t line
        → placed r (choice e) (if◌then◌else◌ {A = Option (State × Option Seen)} b (Some (t, line)) None) ≡ Some l → IsLed r p n l
    within e t line b bound at goes g = grind arith

    to : (e : Event) (x : Next) → event_at r p n ≡ Some e → next r.program p.state e ≡ x → placed r (choice e) (reached r.most x) ≡ Some l
        → IsLed r p n l
    to e (Refuses why) at goes g = absurd (let f : ⊥ = cc in f)
    to e (Moves t line) at goes g = within e t line (is_within r.most t) refl at goes g

    by : (o : Option Event) → event_at r p n ≡ o → led_by r p (chosen (lessened p.left n) p.kept o) ≡ Some l → IsLed r p n l
    by None at g = absurd (let f : ⊥ = cc in f)
    by (Some e) at g = to e (next r.program p.state e) at refl g

  pub led_is : (e : Event) (t : State) (line : Option Seen) → is_within r.most t ≡ true → event_at r p n ≡ Some e
      → next r.program p.state e ≡ Moves t line → led r p n ≡ Some (record { event = e; place = taken r (choice e) t line; line = line })
  led_is e t line within at goes = grind (arith, choice_is)

-- the same of two moves, by what they are told to lead to
pub meet_by : (r : Rules) (s m q : Spot) (b c : Bool) (x y : Led) → m ≡ after_event s x → b ≡ answers r s.place x → q ≡ after_event s y
    → c ≡ answers r s.place y
    → Meet (λ (w : Spot). move_count r w.place) (next_spot r) (spot_code r) (apart r) (after_event s x) (answers r s.place x) (after_event s y)
    (answers r s.place y)
    → Meet (λ (w : Spot). move_count r w.place) (next_spot r) (spot_code r) (apart r) m b q c
meet_by r s m q b c x y first says second tells met = grind arith

-- the loop's move is apart where its step is
pub loop_apart : (r : Rules) (s : Spot) → is_loop_first r s.place ≡ true → apart r s (loop_number r.at_once) ≡ true
loop_apart r s is = grind arith

-- ---- what is offered

pub loop_timed : (most : Option ℕ) (clock : ℕ) → timed most clock (Some Loop) ≡ Some Loop
loop_timed most clock = grind arith

loop_ranked : (forget : Option ℕ) (s : State) → ranked forget s (Some Loop) ≡ Some Loop
loop_ranked forget s = grind arith

loop_brief : (forget : Option ℕ) → brief forget (Some Loop) ≡ Some Loop
loop_brief forget = grind arith

pub get_within : {A : Type 0} (xs : List A) (n : ℕ) (x : A) → slice_get xs n ≡ Some x → nat_lt n (length xs) ≡ true
get_within (y ∷ ys) (suc n) x e = let more = get_within ys n x e in grind (arith, more)
get_within each e1 x e = grind arith

pub not_true : (x : Bool) → not x ≡ true → x ≡ false
not_true x g = grind arith

module _ (r : Rules) (ticks : Bool) (can : CanHold r ticks) where
  count_is : (p : Place) → move_count r p ≡ length r.offers
  count_is p = ap (λ d. move_count_by d (length r.offers) (length p.left)) can.differ

  abbrev loop_move : ℕ
  loop_move = loop_number r.at_once

  loop_within : (p : Place) → nat_lt loop_move (move_count r p) ≡ true
  loop_within p = ap (nat_lt loop_move) (count_is p) ∙ get_within r.offers loop_move (at_will (Step Loop)) can.loop

  -- the loop's move
  loop_offered : (p : Place) → is_at_will (slice_get p.left loop_move) ≡ true → owes p.kept ≡ false → event_at r p loop_move ≡ Some Loop
  loop_offered p at idle = grind (arith, loop_within, timed, loop_timed, loop_ranked, loop_brief, slice_get, ap₂, will_is)

  loop_below : (p : Place) → loop_move < move_count r p
  loop_below p = ltb-true loop_move (move_count r p) (loop_within p)

  -- another one that is taken is of the pool or a tick, and stays behind the loop's step
  record Stays (p q : Place) (i : ℕ) (e : Event) : Type 0 where
    outside : is_outside ticks e ≡ true
    offered : event_at r q i ≡ Some e

  stays : (p q : Place) (i : ℕ) (e : Event) (a : State) (l : Option Seen) → (i ≡ loop_move → ⊥) → next r.program p.state Loop ≡ Moves a l
      → keys_run q.state ≡ keys_run p.state
      → q.state ≡ a → slice_get q.left i ≡ slice_get p.left i → owes p.kept ≡ false → owes q.kept ≡ false → (b : State) (m : Option Seen)
      → may_take_io r.program p.state.place ≡ false → next r.program p.state e ≡ Moves b m → event_at r p i ≡ Some e → Stays p q i e
  stays p q i e a l more goes keys there same idle still b m none comes h =
      let here : (if nat_lt i (length r.offers) then offered_by r p (slice_get r.offers i) (slice_get p.left i) else None) ≡ Some e =
      ap (λ n. if nat_lt i n then offered_by r p (slice_get r.offers i) (slice_get p.left i) else None) (sym (count_is p)) ∙ h in
      let found = by (nat_lt i (length r.offers)) (slice_get r.offers i) (slice_get p.left i) refl here in
      record {
        outside = found.0;
        offered = ap (λ n. if nat_lt i n then offered_by r q (slice_get r.offers i) (slice_get q.left i) else None) (count_is q)
            ∙ ap (λ x. if nat_lt i (length r.offers) then offered_by r q (slice_get r.offers i) x else None) same ∙ found.1;
      }
    where
      leaves : (a.clock ≡ p.state.clock) × (a.running ≡ p.state.running)
      leaves = loop_keeps r.program p.state a l goes

      clock : q.state.clock ≡ p.state.clock
      clock = ap (λ (u : State). u.clock) there ∙ leaves.0

      running : q.state.running ≡ p.state.running
      running = ap (λ (u : State). u.running) there ∙ leaves.1

      kept_time : (o : Option Event) → timed r.clock p.state.clock o ≡ timed r.clock q.state.clock o
      kept_time o = ap (λ n. timed r.clock n o) (sym clock)

      timed_is : (o : Option Event) (f : Event) → timed r.clock p.state.clock o ≡ Some f → o ≡ Some f
      timed_is None f g = absurd (let no : ⊥ = cc in no)
      timed_is (Some x) f g = in_time (keeps_clock r.clock p.state.clock x) g where
        in_time : (b : Bool) → (if b then Some x else None) ≡ Some f → Some x ≡ Some f
        in_time true k = k
        in_time false k = absurd (let no : ⊥ = cc in no)

      brief_is : (o : Option Event) → brief r.forget o ≡ Some e → o ≡ Some e
      brief_is None g = absurd (let no : ⊥ = cc in no)
      brief_is (Some x) g = in_brief (is_brief r.forget x) g where
        in_brief : (b : Bool) → (if b then Some x else None) ≡ Some e → Some x ≡ Some e
        in_brief true k = k
        in_brief false k = absurd (let no : ⊥ = cc in no)

      -- what an offer is at a place before it is known of which worker
      unranked : Place → Bool → Offered → Option Event
      unranked x may offered = if may then timed r.clock x.state.clock (event_of r.program x.state x.kept offered.offer) else None

      -- it may come, and comes again where it is from outside
      before : (may : Bool) (offered : Offered) (f : Event) → can_meet ticks offered.offer ≡ true → unranked p may offered ≡ Some f
          → (may_come ticks f ≡ true) × (is_outside ticks f ≡ true → unranked q may offered ≡ unranked p may offered)
      before false offered f of k = absurd (let no : ⊥ = cc in no)
      before true offered f of k =
          let here = event_of r.program p.state p.kept offered.offer in
          let event_is = timed_is here f k in
          let both = event_stays r.program p.state q.state l p.kept q.kept (goes ∙ ap (λ u. Moves u l) (sym there)) idle still running ticks
          offered.offer f of event_is in
          (both.0, λ out. ap (timed r.clock q.state.clock) (both.1 out ∙ sym event_is) ∙ sym (kept_time here))

      taken_or : (may : Bool) (offered : Offered) → can_meet ticks offered.offer ≡ true
          → brief r.forget (ranked r.forget p.state (unranked p may offered)) ≡ Some e
          → (is_outside ticks e ≡ true) × (brief r.forget (ranked r.forget q.state (unranked q may offered)) ≡ Some e)
      taken_or may offered of g =
          let here = unranked p may offered in
          let of_rank = ranked_outside r.forget ticks p.state here e (brief_is (ranked r.forget p.state here) g) in
          let both = before may offered of_rank.event of of_rank.is in
          let out = comes_outside r.program p.state ticks e (of_rank.comes both.0) none b m comes in (grind (arith, ranked_same))

      by : (c : Bool) (o : Option Offered) (x : Option Left) → slice_get r.offers i ≡ o → (if c then offered_by r p o x else None) ≡ Some e
          → (is_outside ticks e ≡ true) × ((if c then offered_by r q o x else None) ≡ Some e)
      by false o x at g = absurd (let no : ⊥ = cc in no)
      by true None x at g = absurd (let no : ⊥ = cc in no)
      by true (Some offered) None at g = absurd (let no : ⊥ = cc in no)
      by true (Some offered) (Some x) at g = taken_or (may_take x) offered (can.others i offered more at) g

  -- ---- both orders

  -- the loop's step, and another one, from a place
  meets_by : (s : Spot) → IsSpot r s → (e : Event) (a b : State) (l m : Option Seen) → is_outside ticks e ≡ true
      → is_loop_apart r.program ticks s.place.state ≡ true → next r.program s.place.state Loop ≡ Moves a l
      → next r.program s.place.state e ≡ Moves b m
      → Meets r.program e a b l m
  meets_by s is (event.Take k) a b l m out first goes comes =
      takes_apart r.program s.steps s.place.state a b k l m is.state
      (apart_cancels r.program s.place.state (and_parts (is_apart r.program s.place.state) _ first).0) goes comes
  meets_by s is (event.Finish k) a b l m out first goes comes =
      finishes_apart r.program s.steps s.place.state a b k l m is.state (and_parts (is_apart r.program s.place.state) _ first).0 goes comes
  meets_by s is (event.Tick ms) a b l m out first goes comes = grind (arith, ticks_apart, reads_clock, and_parts, not)
  meets_by s is event.Loop a b l m out first goes comes = absurd (let f : false ≡ true = out in cc)
  meets_by s is (event.Cancel v) a b l m out first goes comes = absurd (let f : false ≡ true = out in cc)
  meets_by s is (event.Send v) a b l m out first goes comes = absurd (let f : false ≡ true = out in cc)
  meets_by s is (event.Io v) a b l m out first goes comes = absurd (let f : false ≡ true = out in cc)

  -- what such an event leaves
  record Leaves (s b : State) : Type 0 where
    names : b.names ≡ s.names
    first : is_loop_apart r.program ticks b ≡ is_loop_apart r.program ticks s
    apart : is_apart r.program b ≡ is_apart r.program s

  first_by : (s b : State) → LeavesPlace r.program s b → is_loop_apart r.program ticks b ≡ is_loop_apart r.program ticks s
  first_by s b h = cc

  leaves_by : (e : Event) (s b : State) (m : Option Seen) → is_outside ticks e ≡ true → next r.program s e ≡ Moves b m → Leaves s b
  leaves_by (event.Take k) s b m out comes =
      let h = take_leaves r.program s b k m comes in
      record { names = h.names; first = first_by s b h; apart = h.apart }
  leaves_by (event.Finish k) s b m out comes =
      let h = finish_leaves r.program s b k m comes in
      record { names = h.names; first = first_by s b h; apart = h.apart }
  leaves_by (event.Tick ms) s b m out comes =
      let h = tick_leaves r.program s b ms m comes in
      record { names = h.names; first = first_by s b h; apart = h.apart }
  leaves_by each s b m out comes = grind arith

  -- ---- both moves, in both orders

  module _ (hold : r.hold ≡ Some ticks) (s : Spot) (is : IsSpot r s) (few : is_few r.forget (length s.steps + 2) ≡ true)
      (i : ℕ) (more : i ≡ loop_move → ⊥) (below : i < move_count r s.place)
      (loop_first : is_loop_apart r.program ticks s.place.state ≡ true) (at : is_at_will (slice_get s.place.left loop_move) ≡ true)
      (idle : owes s.place.kept ≡ false) (e : Event) (a b : State) (l m : Option Seen) (offered : event_at r s.place i ≡ Some e)
      (goes : next r.program s.place.state Loop ≡ Moves a l) (comes : next r.program s.place.state e ≡ Moves b m)
      (bound : is_within r.most a ≡ true) where
    abbrev by_loop : Led
    by_loop = record {
      event = Loop;
      place = taken r (record { event = Loop; left = lessened s.place.left loop_move; kept = s.place.kept }) a l;
      line = l;
    }

    abbrev by_other : Led
    by_other = record { event = e; place = taken r (record { event = e; left = lessened s.place.left i; kept = s.place.kept }) b m; line = m }

    idle_kept : (f : Event) (t : State) (line : Option Seen) (k : Kept) → owes k ≡ false
        → owes (kept_after r.recorded r.takes r.question k f t line) ≡ false
    idle_kept f t line k none = grind arith

    left_is : lessened s.place.left loop_move ≡ s.place.left
    left_is = at_will_stays s.place.left loop_move at

    no_io_here : may_take_io r.program s.place.state.place ≡ false
    no_io_here = grind arith

    there : Stays s.place by_loop.place i e
    there = stays s.place by_loop.place i e a l more goes
        (keys_stay r.program s.steps s.place.state a l is.state (and_parts (is_apart r.program s.place.state) _ loop_first).0 goes)
        refl (ap (λ xs. slice_get xs i) left_is) idle
        (idle_kept Loop a l s.place.kept idle) b m no_io_here comes offered

    meets : Meets r.program e a b l m
    meets = meets_by s is e a b l m there.outside loop_first goes comes

    left_behind : Leaves s.place.state b
    left_behind = leaves_by e s.place.state b m there.outside comes

    at_behind : is_at_will (slice_get by_other.place.left loop_move) ≡ true
    at_behind = ap is_at_will (others_stay s.place.left i loop_move more) ∙ at

    idle_behind : owes by_other.place.kept ≡ false
    idle_behind = idle_kept e b m s.place.kept idle

    -- the loop's step behind the other, and the other behind the loop's step
    abbrev loop_last : Led
    loop_last = record {
      event = Loop;
      place = taken r (record { event = Loop; left = lessened by_other.place.left loop_move; kept = by_other.place.kept }) meets.state l;
      line = l;
    }

    abbrev other_last : Led
    other_last = record {
      event = e;
      place = taken r (record { event = e; left = lessened by_loop.place.left i; kept = by_loop.place.kept }) meets.state m;
      line = m;
    }

    one_place : loop_last.place ≡ other_last.place
    one_place =
        let left : lessened by_other.place.left loop_move ≡ lessened by_loop.place.left i =
        at_will_stays by_other.place.left loop_move at_behind ∙ ap (λ xs. lessened xs i) (sym left_is) in
        let k = s.place.kept in
        let q = r.question in
        let out = there.outside in
        let kept : kept_after r.recorded r.takes q (kept_after r.recorded r.takes q k e b m) Loop meets.state l
        ≡ kept_after r.recorded r.takes q (kept_after r.recorded r.takes q k Loop a l) e meets.state m =
        subst (λ ts. kept_after r.recorded ts q (kept_after r.recorded ts q k e b m) Loop meets.state l
        ≡ kept_after r.recorded ts q (kept_after r.recorded ts q k Loop a l) e meets.state m) (sym can.takes)
        (ap (λ x. kept_after r.recorded [] q x Loop meets.state l) (kept_outside r.recorded q k ticks e b m can.question idle out)
        ∙ kept_same r.recorded q k Loop meets.state a l can.question idle
        ∙ sym (search (kept_outside, still_idle))) in
        λ j. record { state = meets.state; left = left j; kept = kept j }

    names_stay : meets.state.names ≡ a.names
    names_stay = (leaves_by e a meets.state m there.outside meets.event_after).names

    bound_there : is_within r.most meets.state ≡ true
    bound_there = within_same meets.state a names_stay r.most ∙ bound

    -- what is answered
    loop_same : line_answers r.program r.question by_other.place.kept.due meets.state l ≡ line_answers r.program r.question s.place.kept.due a l
    loop_same = line_same r.program r.question by_other.place.kept.due s.place.kept.due meets.state a names_stay can.question l

    other_none : answers r s.place by_other ≡ false
    other_none =
        let line = outside_mute r.program s.place.state b m ticks e there.outside comes r.program r.question s.place.kept.due b in
        let apart_there : is_apart r.program b ≡ true = left_behind.apart ∙ (and_parts (is_apart r.program s.place.state) _ loop_first).0 in
        ap₂ (λ x y. if x then true else y) line (place_mute r by_other.place meets.state l apart_there meets.loop_after)

    answers_meet : (answers r s.place by_other || answers r by_other.place loop_last) ≡ true
        → (answers r s.place by_loop || answers r by_loop.place other_last) ≡ true
    answers_meet h =
        let mute = outside_mute r.program s.place.state b m ticks e there.outside comes r.program r.question by_loop.place.kept.due meets.state in
        let last : answers r by_loop.place other_last ≡ place_answers r loop_last.place r.question =
        ap (λ x. if x then true else place_answers r other_last.place r.question) mute ∙ ap (λ p. place_answers r p r.question) (sym one_place) in
        by (line_answers r.program r.question s.place.kept.due a l) (place_answers r loop_last.place r.question)
        (place_answers r by_loop.place r.question) last
        (ap (λ x. if x then true else place_answers r loop_last.place r.question) (sym loop_same)
        ∙ ap (λ x. x || answers r by_other.place loop_last) (sym other_none) ∙ h)
      where
        by : (x y z : Bool) → answers r by_loop.place other_last ≡ y → (if x then true else y) ≡ true
            → ((if x then true else z) || answers r by_loop.place other_last) ≡ true
        by x y z last g = grind arith

    few_by : (f : Led) → is_few r.forget (length (after_event s f).steps + 1) ≡ true
    few_by f = grind (arith, length, length-append)

    spot_is : (q : Spot) (f : Led) → is_few r.forget (length q.steps + 1) ≡ true → spot_of r q (Some f) ≡ Some (after_event q f, answers r q.place f)
    spot_is q f short = ap (λ c. if◌then◌else◌ {A = Option (Spot × Bool)} c (Some (after_event q f, answers r q.place f)) None) short

    pub meeting : Meet (λ (x : Spot). move_count r x.place) (next_spot r) (spot_code r) (apart r) (after_event s by_loop)
        (answers r s.place by_loop)
        (after_event s by_other) (answers r s.place by_other)
    meeting = record {
      last = after_event (after_event s by_other) loop_last;
      end = after_event (after_event s by_loop) other_last;
      d = answers r by_other.place loop_last;
      e = answers r by_loop.place other_last;
      late = loop_move;
      offered = loop_below by_other.place;
      goes = ap (spot_of r (after_event s by_other))
          (led_is r can.differ by_other.place loop_move Loop meets.state l bound_there
          (loop_offered by_other.place at_behind idle_behind) meets.loop_after)
          ∙ spot_is (after_event s by_other) loop_last (few_by by_other);
      behind = i;
      stays = omega (arith, below, count_is s.place, count_is by_loop.place);
      comes = ap (spot_of r (after_event s by_loop))
          (led_is r can.differ by_loop.place i e meets.state m bound_there there.offered meets.event_after)
          ∙ spot_is (after_event s by_loop) other_last (few_by by_loop);
      same = ap (λ p. spot_code r (record { place = p; steps = [] })) one_place;
      answers = answers_meet;
      still = loop_apart r (after_event s by_other)
          (ap (λ h. apart_by h r.program loop_move by_other.place) hold
          ∙ ap₂ (λ x y. x && y) (left_behind.first ∙ loop_first) (ap₂ (λ x y. x && not y) at_behind idle_behind));
    }

  -- the same of two moves, by what they are made of
  meeting_led : r.hold ≡ Some ticks → (s : Spot) → IsSpot r s → is_few r.forget (length s.steps + 2) ≡ true → (i : ℕ) → (i ≡ loop_move → ⊥)
      → i < move_count r s.place
      → is_loop_apart r.program ticks s.place.state ≡ true → is_at_will (slice_get s.place.left loop_move) ≡ true → owes s.place.kept ≡ false
      → (x y : Led) → IsLed r s.place loop_move x → IsLed r s.place i y
      → Meet (λ (q : Spot). move_count r q.place) (next_spot r) (spot_code r) (apart r) (after_event s x) (answers r s.place x) (after_event s y)
      (answers r s.place y)
  meeting_led hold s is few i more below first at idle x y one two =
      let loop : one.event ≡ Loop = same_Some one.event Loop (sym one.offered ∙ loop_offered s.place at idle) in
      let goes = subst (λ e. next r.program s.place.state e ≡ Moves one.state one.line) loop one.goes in
      let looped =
      by_loop hold s is few i more below first at idle two.event one.state two.state one.line two.line two.offered goes two.goes one.within in
      let x_is : x ≡ looped =
      one.is ∙ (λ j. record {
        event = loop j;
        place = taken r (record { event = loop j; left = lessened s.place.left loop_move; kept = s.place.kept }) one.state one.line;
        line = one.line;
      }) in
      subst (λ z. Meet (λ (q : Spot). move_count r q.place) (next_spot r) (spot_code r) (apart r) (after_event s z) (answers r s.place z)
      (after_event s y) (answers r s.place y)) (sym x_is)
      (subst (λ z. Meet (λ (q : Spot). move_count r q.place) (next_spot r) (spot_code r) (apart r)
      (after_event s looped) (answers r s.place looped)
      (after_event s z) (answers r s.place z)) (sym two.is)
      (meeting hold s is few i more below first at idle two.event one.state two.state one.line two.line two.offered goes two.goes one.within))

-- where the loop's step is apart, each other move meets it
pub loop_meets : (r : Rules) (n : ℕ) (s : Spot) (i : ℕ) → HasRoom r (suc (suc n)) s → is_loop_first r s.place ≡ true
    → i < move_count r s.place → (i ≡ loop_number r.at_once → ⊥)
    → IsApart (λ (q : Spot). move_count r q.place) (next_spot r) (spot_code r) (apart r) s (loop_number r.at_once) i
loop_meets r n s i room first below other m q b c goes comes = by r.hold refl first where
  by : (o : Option Bool) → r.hold ≡ o → apart_by o r.program (loop_number r.at_once) s.place ≡ true
      → Meet (λ (x : Spot). move_count r x.place) (next_spot r) (spot_code r) (apart r) m b q c
  by None hold f = absurd (let g : false ≡ true = f in cc)
  by (Some ticks) hold f =
      let can = room.holds.behind_loop ticks hold in
      let parts = and_parts (is_loop_apart r.program ticks s.place.state) _ f in
      let more_parts = and_parts (is_at_will (slice_get s.place.left (loop_number r.at_once))) _ parts.1 in
      let few = fewer r r.forget (length s.steps + 2) (length s.steps + suc (suc n)) (omega arith) room.few in
      let one = move_is r s m (loop_number r.at_once) b goes in
      let two = move_is r s q i c comes in
      let met = meeting_led r ticks can hold s room.spot few i other below parts.0 more_parts.0 (not_true (owes s.place.kept) more_parts.1)
      one.0 two.0
      (is_led r can.differ s.place (loop_number r.at_once) one.0 one.1.0) (is_led r can.differ s.place i two.0 two.1.0) in
      meet_by r s m q b c one.0 two.0 one.1.1 one.1.2 two.1.1 two.1.2 met

-- ---- room

pub room_standing : (r : Rules) (n : ℕ) (s : Spot) → IsStanding r s → IsTold r n → HasRoom r n s
room_standing r n s is told = grind arith

pub room_fewer : (r : Rules) (n : ℕ) (s : Spot) → HasRoom r (suc n) s → HasRoom r n s
room_fewer r n s room = grind arith

pub room_follows : (r : Rules) (n : ℕ) (s : Spot) (i : ℕ) (t : Spot) (b : Bool) → HasRoom r (suc n) s → i < move_count r s.place
    → next_spot r s i ≡ Some (t, b) → HasRoom r n t
room_follows r n s i t b room below goes =
    let one = move_is r s t i b goes in
    let long : length t.steps + n ≡ length s.steps + suc n = omega
    (arith, ap (λ (x : Spot). length x.steps) one.1.1, length-append s.steps (one.0.event ∷ [])) in
    search spots_lead

pub room_same : (r : Rules) (n : ℕ) (s t : Spot) → HasRoom r (suc n) s → HasRoom r (suc n) t → spot_code r s ≡ spot_code r t
    → CoversMoves (λ (x : Spot). move_count r x.place) (next_spot r) (spot_code r) s t
room_same r n s t here there same = spots_alike r s t here.spot there.spot
    (fewer r r.forget (length t.steps + 1) (length t.steps + suc n) (omega arith) there.few) same

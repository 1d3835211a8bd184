-- What a place does, one that has the same key does as well: it leads by each move to one of the same key, and answers alike.
use Rattle.uv_find.proofs.Names.{◌≡◌, inl, inr, ℕ, zero, suc, ◌+◌, ◌&&◌, Bool, true, false, List, [], ◌∷◌, ◌++◌, length, nat_lt, is_none, slice_get, refl, sym, ap, ap₂, subst, ◌∙◌, Option, Some, None, if◌then◌else◌, arith, none-some, Event, Take, Seen, State, Next, Moves, Refuses, CoversMoves, CoversStep, calls_timer, IsRegular, LeadsRegular, tale, Offered, Question, Left, is_common, along_after, Rules, Place, Choice, Led, led, led_by, placed, chosen, lessened, offered_by, is_brief, move_count, move_count_by, taken, reached, is_within, answers, place_answers, none_leads, Spot, spot_of, next_spot, told, spot_code, CanForget, IsSpot, IsStanding, is_few}
use Rattle.uv_model.specs.Next.{next}
use Rattle.uv_find.proofs.Alike.{GoesAlike, NextGoes, IsGoing, spot_going, AreAlike, DueAlike, kept_due_alike, within_alike, goes_alike, blocked_alike, offered_alike, both}
use Rattle.uv_find.proofs.Led.{each, event_at, choice_is, led_leads, leads_spot, offered_brief}
use Rattle.uv_find.proofs.Onward.{owed_alike, uncalled_alike, line_alike}
use Rattle.uv_find.proofs.Lines.{LinesAlike}
use Rattle.uv_find.proofs.Readings.{reads_ended}
use Rattle.uv_find.proofs.Runners.{RunAlike, EventsAlike, OffersAlike}
use Rattle.uv_find.proofs.Moving.{after_event}
use Rattle.uv_find.proofs.Telling.{places_tell}

-- a worker took a request by the offer of this number
abbrev pub led_take : Rules → Place → ℕ → ℕ → State → Option Seen → Led
led_take r p number worker u line = record {
  event = Take worker;
  place = taken r (record { event = Take worker; left = lessened p.left number; kept = p.kept }) u line;
  line = line;
}

module _ (r : Rules) (n : ℕ) (forget : r.forget ≡ Some n) (can : CanForget r n) where
  -- ---- what is offered

  event_brief : (p : Place) (number : ℕ) (e : Event) → event_at r p number ≡ Some e → is_brief (Some n) e ≡ true
  event_brief p number e is = by (nat_lt number (move_count r p)) is where
    by : (b : Bool) → (if b then offered_by r p (slice_get r.offers number) (slice_get p.left number) else None) ≡ Some e → is_brief (Some n) e ≡ true
    by true h = ap (λ o. is_brief o e) (sym forget) ∙ offered_brief r p (slice_get r.offers number) (slice_get p.left number) e h
    by false h = absurd (none-some e h)

  -- ---- where it leads

  pub record LeadsAlike (s t : Place) (x y : Led) : Type 0 where
    pub places : AreAlike r n x.place y.place
    pub regular : IsRegular r.program x.place.state
    pub other : IsRegular r.program y.place.state
    pub lines : LinesAlike r.program x.line y.line
    pub timers : calls_timer x.place.state x.line ≡ calls_timer y.place.state y.line
    pub dues : DueAlike r.question x.place.state.clock s.kept.due y.place.state.clock t.kept.due

  abbrev pub LedAlike : Place → Place → Option Led → Option Led → Type 0
  LedAlike s t None None = Unit {0}
  LedAlike s t (Some x) (Some y) = LeadsAlike s t x y
  LedAlike s t x y = ⊥

  due_goes : (q : Question) (a b u v d e : ℕ) → DueAlike q a d b e → u + b ≡ v + a → DueAlike q u d v e
  due_goes each a b u v d e h k = grind arith

  module _ (s t : Place) (hs : IsGoing r.program n s) (ht : IsGoing r.program n t) (alike : AreAlike r n s t) where
    events_alike : (number : ℕ) → OffersAlike s.state t.state (event_at r s number) (event_at r t number)
    events_alike number =
        subst (λ (xs : List Left). OffersAlike s.state t.state (event_at r s number)
        (if nat_lt number (move_count_by r.differ (length r.offers) (length xs))
        then offered_by r t (slice_get r.offers number) (slice_get xs number) else None)) alike.left
        (by (nat_lt number (move_count r s)))
      where
        by : (b : Bool) → OffersAlike s.state t.state
            (if b then offered_by r s (slice_get r.offers number) (slice_get s.left number) else None)
            (if b then offered_by r t (slice_get r.offers number) (slice_get s.left number) else None)
        by true = offered_alike r n forget can s t hs ht alike (slice_get r.offers number) (slice_get s.left number)
            (λ (o : Offered) (is : slice_get r.offers number ≡ Some o). each (λ (x : Offered). is_common x.offer) r.offers number o can.aside is)
        by false = tt

    module _ (number : ℕ) (e f : Event) (does : EventsAlike s.state t.state e f) (brief : is_brief (Some n) e ≡ true) where
      abbrev c : Choice
      c = record { event = e; left = lessened s.left number; kept = s.kept }

      abbrev d : Choice
      d = record { event = f; left = lessened t.left number; kept = t.kept }

      behind : (w : Place) (hw : IsGoing r.program n w) (g : Event) (u : State) (line : Option Seen) → next r.program w.state g ≡ Moves u line
          → IsRegular r.program u
      behind w hw g u line goes = subst (LeadsRegular r.program) goes (hw.leads g)

      along_both : (u v : State) (line other : Option Seen) → IsRegular r.program u → IsRegular r.program v
          → tale n u ≡ tale n v
          → LinesAlike r.program line other
          → along_after r.recorded s.kept.along e line ≡ along_after r.recorded t.kept.along f other
      along_both u v line other ru rv same lines = grind arith

      taken_alike : (u v : State) (line other : Option Seen) → next r.program s.state e ≡ Moves u line →
          next r.program t.state f ≡ Moves v other → GoesAlike r.program n s.state t.state u v line other →
          LeadsAlike s t (record { event = e; place = taken r c u line; line = line }) (record { event = f; place = taken r d v other; line = other })
      taken_alike u v line other goes comes k = search (behind, due_goes, owed_alike, along_both, kept_due_alike)

      placed_alike : (x y : Next) → next r.program s.state e ≡ x → next r.program t.state f ≡ y →
          NextGoes r.program n s.state t.state x y → LedAlike s t (placed r c (reached r.most x)) (placed r d (reached r.most y))
      placed_alike (Refuses why) (Refuses other) goes comes k = tt
      placed_alike (Refuses why) (Moves v other) goes comes k = absurd k
      placed_alike (Moves u line) (Refuses why) goes comes k = absurd k
      placed_alike (Moves u line) (Moves v other) goes comes k =
          by (is_within r.most u) (is_within r.most v)
          (within_alike r n forget can u v (behind s hs e u line goes) (behind t ht f v other comes) k.same r.most can.most)
        where
          by : (g h : Bool) → g ≡ h →
              LedAlike s t (placed r c (if◌then◌else◌ {A = Option (State × Option Seen)} g (Some (u, line)) None))
              (placed r d (if◌then◌else◌ {A = Option (State × Option Seen)} h (Some (v, other)) None))
          by g h same = grind (arith, taken_alike)

    pub led_alike : (number : ℕ) → LedAlike s t (led r s number) (led r t number)
    led_alike number =
        let one : led_by r s (chosen (lessened s.left number) s.kept (event_at r s number)) ≡ led r s number =
        ap (led_by r s) (sym (choice_is r can.differ s number)) in
        let two : led_by r t (chosen (lessened t.left number) t.kept (event_at r t number)) ≡ led r t number =
        ap (led_by r t) (sym (choice_is r can.differ t number)) in
        subst (λ x. LedAlike s t x (led r t number)) one
        (subst (λ y. LedAlike s t (led_by r s (chosen (lessened s.left number) s.kept (event_at r s number))) y) two
        (by (event_at r s number) (event_at r t number) (event_brief s number) (events_alike number)))
      where
        by : (x y : Option Event) → ((e : Event) → x ≡ Some e → is_brief (Some n) e ≡ true)
            → OffersAlike s.state t.state x y →
            LedAlike s t (led_by r s (chosen (lessened s.left number) s.kept x))
            (led_by r t (chosen (lessened t.left number) t.kept y))
        by None None brief h = tt
        by None (Some f) brief h = absurd h
        by (Some e) None brief h = absurd h
        by (Some e) (Some f) brief h = search (placed_alike, goes_alike)

    -- ---- what a place answers

    none_by : (x y : Option Led) → LedAlike s t x y → is_none x ≡ is_none y
    none_by each e1 h = grind arith

    none_alike : (count : ℕ) → none_leads r s count ≡ none_leads r t count
    none_alike zero = refl
    none_alike (suc count) =
        ap₂ (λ x y. x && y) (none_alike count) (none_by (led r s count) (led r t count) (led_alike count))

    count_alike : move_count r s ≡ move_count r t
    count_alike = ap (λ (xs : List Left). move_count r (record s { left = xs })) alike.left

    pub place_alike : (q : Question) → place_answers r s q ≡ place_answers r t q
    place_alike each = grind (arith, ap₂, both, reads_ended, uncalled_alike, blocked_alike, none_alike, count_alike)

  -- ---- the key

  alike_by : (p q : Place) → told r p ≡ told r q → AreAlike r n p q
  alike_by p q h = grind arith

  -- ---- and so the moves

  module _ (s t : Spot) (hs : IsSpot r s) (ht : IsSpot r t) (few_behind : is_few r.forget (length t.steps + 1) ≡ true)
      (alike : AreAlike r n s.place t.place) where
    going : IsGoing r.program n s.place
    going = spot_going r n forget can s hs

    other_going : IsGoing r.program n t.place
    other_going = spot_going r n forget can t ht

    step_covers : (x y : Led) → LeadsAlike s.place t.place x y → IsSpot r (record { place = x.place; steps = s.steps ++ x.event ∷ [] }) →
        IsSpot r (record { place = y.place; steps = t.steps ++ y.event ∷ [] }) →
        (spot_code r (record { place = x.place; steps = s.steps ++ x.event ∷ [] })
        ≡ spot_code r (record { place = y.place; steps = t.steps ++ y.event ∷ [] }))
        × (answers r s.place x ≡ answers r t.place y)
    step_covers x y h hx hy =
        let line = line_alike r n forget can x.place.state y.place.state h.regular h.other h.places.state s.place.kept.due t.place.kept.due
        x.line y.line h.dues h.lines h.timers in
        let place = place_alike x.place y.place (spot_going r n forget can (record { place = x.place; steps = s.steps ++ x.event ∷ [] }) hx)
        (spot_going r n forget can (record { place = y.place; steps = t.steps ++ y.event ∷ [] }) hy) h.places r.question in (grind arith)

    -- two workers that run alike take a request, by this offer: they lead to places of one key, and answer alike
    pub takes_cover : (number worker other : ℕ) (u v : State) (line says : Option Seen)
        → RunAlike s.place.state t.place.state worker other
        → next r.program s.place.state (Take worker) ≡ Moves u line → next r.program t.place.state (Take other) ≡ Moves v says
        → IsSpot r (after_event s (led_take r s.place number worker u line)) → IsSpot r (after_event t (led_take r t.place number other v says))
        → (spot_code r (after_event s (led_take r s.place number worker u line))
        ≡ spot_code r (after_event t (led_take r t.place number other v says)))
        × (answers r s.place (led_take r s.place number worker u line) ≡ answers r t.place (led_take r t.place number other v says))
    takes_cover number worker other u v line says runs goes comes here there =
        let both : EventsAlike s.place.state t.place.state (Take worker) (Take other) =
        inr (inl (record { worker = worker; other = other; one = refl; two = refl; same = runs })) in
        let next_both = goes_alike r n forget can s.place t.place going other_going alike (Take worker) (Take other) both refl in
        let moved : GoesAlike r.program n s.place.state t.place.state u v line says =
        subst (λ y. NextGoes r.program n s.place.state t.place.state (Moves u line) y) comes
        (subst (λ x. NextGoes r.program n s.place.state t.place.state x (next r.program t.place.state (Take other))) goes next_both) in
        step_covers (led_take r s.place number worker u line) (led_take r t.place number other v says)
        (taken_alike s.place t.place going other_going alike number (Take worker) (Take other) both refl u v line says goes comes moved) here there

    module _ (number : ℕ) where
      covers_by : (x y : Option Led) → led r s.place number ≡ x → led r t.place number ≡ y → LedAlike s.place t.place x y →
          CoversStep (spot_code r) (spot_of r s x) (spot_of r t y)
      covers_by None None is so h = tt
      covers_by None (Some y) is so h = absurd h
      covers_by (Some x) None is so h = absurd h
      covers_by (Some x) (Some y) is so h = by (is_few r.forget (length s.steps + 1)) (is_few r.forget (length t.steps + 1)) refl few_behind where
        by : (b c : Bool) → is_few r.forget (length s.steps + 1) ≡ b → c ≡ true →
            CoversStep (spot_code r)
            (if◌then◌else◌ {A = Option (Spot × Bool)} b
            (Some (record { place = x.place; steps = s.steps ++ x.event ∷ [] }, answers r s.place x)) None)
            (if◌then◌else◌ {A = Option (Spot × Bool)} c
            (Some (record { place = y.place; steps = t.steps ++ y.event ∷ [] }, answers r t.place y)) None)
        by b c few more = grind (arith, step_covers, leads_spot, led_leads)

    covers : CoversMoves (λ (a : Spot). move_count r a.place) (next_spot r) (spot_code r) s t
    covers = grind (arith, count_alike, going, other_going, covers_by, led_alike)

-- ---- where places are told whole

whole_place : (r : Rules) (p q : Place) → r.forget ≡ None → told r p ≡ told r q → p ≡ q
whole_place r p q whole e = grind arith

-- behind a place that a session holds a step is one of few
pub few_standing : (r : Rules) (t : Spot) → IsStanding r t → is_few r.forget (length t.steps + 1) ≡ true
few_standing r t js = grind arith

pub spots_alike : (r : Rules) (s t : Spot) → IsSpot r s → IsSpot r t → is_few r.forget (length t.steps + 1) ≡ true
    → spot_code r s ≡ spot_code r t → CoversMoves (λ (a : Spot). move_count r a.place) (next_spot r) (spot_code r) s t
spots_alike r s t is js few e = by r.forget refl where
  same : told r s.place ≡ told r t.place
  same = places_tell r s t is js e

  by : (o : Option ℕ) → r.forget ≡ o → CoversMoves (λ (a : Spot). move_count r a.place) (next_spot r) (spot_code r) s t
  by (Some n) some =
      let can = is.forgets n some in
      covers r n some can s t is js few (alike_by r n some can s.place t.place same)
  by None whole =
      let place = whole_place r s.place t.place whole same in (grind arith)

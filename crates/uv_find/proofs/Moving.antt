-- Moves of a search are events of a loop, and events are moves.
use Rattle.uv_find.proofs.Names.{◌≡◌, ℕ, suc, ◌+◌, ◌<◌, ◌≤◌, length, length-append, if◌then◌else◌, Bool, true, List, [], ◌∷◌, ◌++◌, refl, ap, subst, ◌∙◌, Option, Some, None, append_assoc, arith, common_steps, Event, LeadTo, Answers, Rules, Place, Choice, Led, led, move_count, answers, Course, LeadsOn, Spot, spot_of, next_spot, is_few}
use Rattle.uv_find.specs.Orders.{choice_at}
use Rattle.uv_find.specs.Courses as courses
use Rattle.uv_find.proofs.Led.{led_leads}

-- the spot after an event
abbrev pub after_event : Spot → Led → Spot
after_event s l = record { place = l.place; steps = s.steps ++ l.event ∷ [] }

module _ (r : Rules) where
  abbrev pub LeadsTo : Spot → List ℕ → Spot → Type 0
  LeadsTo s is t = LeadTo (λ (a : Spot). move_count r a.place) (next_spot r) s is t

  -- ---- a move is an event

  pub move_is : (s t : Spot) (i : ℕ) (b : Bool) → next_spot r s i ≡ Some (t, b)
      → (l : Led) × ((led r s.place i ≡ Some l) × (t ≡ after_event s l) × (b ≡ answers r s.place l))
  move_is s t i b goes = grind arith

  -- moves are a course
  pub moves_course : (s : Spot) (is : List ℕ) (t : Spot) → LeadsTo s is t
      → (es : List Event) × (Course r s.place es t.place × (t.steps ≡ s.steps ++ es))
  moves_course s [] t e = ([], (ap (λ x. x.place) e, ap (λ x. x.steps) e ∙ grind (arith, common_steps)))
  moves_course s (i ∷ is) t (m, b, offered, goes, rest) =
      let one = move_is s m i b goes in
      let l = one.0 in
      let place : m.place ≡ l.place = ap (λ x. x.place) one.1.1 in
      let steps : m.steps ≡ s.steps ++ l.event ∷ [] = ap (λ x. x.steps) one.1.1 in
      let more = moves_course m is t rest in (
        l.event ∷ more.0,
        (grind (arith, led_leads, append_assoc)),
      )

  -- ---- an event is a move

  choice_below : (p : Place) (n : ℕ) (c : Choice) → choice_at r p n ≡ Some c → n < move_count r p
  unfolding choice_at
  choice_below p n c h = grind arith

  leads_led : (p : Place) (l : Led) (on : LeadsOn r p l) → led r p on.number ≡ Some l
  leads_led p l on = grind arith

  -- fewer steps are few, too
  pub fewer : (o : Option ℕ) (m n : ℕ) → m ≤ n → is_few o n ≡ true → is_few o m ≡ true
  fewer o m n less few = grind arith

  one_longer : (xs : List Event) (e : Event) (n : ℕ) → length (xs ++ e ∷ []) + n ≡ length xs + suc n
  one_longer xs e n = omega (arith, length-append {A = Event})

  -- it is a move, where its steps are few
  goes_on : (s : Spot) (l : Led) → is_few r.forget (length s.steps + 1) ≡ true → spot_of r s (Some l) ≡ Some (after_event s l, answers r s.place l)
  goes_on s l few = ap (λ c. if◌then◌else◌ {A = Option (Spot × Bool)} c (Some (after_event s l, answers r s.place l)) None) few

  pub event_move : (s : Spot) (l : Led) (on : LeadsOn r s.place l) → is_few r.forget (length s.steps + 1) ≡ true
      → (on.number < move_count r s.place) × (next_spot r s on.number ≡ Some (after_event s l, answers r s.place l))
  event_move s l on few = search (choice_below, leads_led, goes_on)

  -- a course is moves
  pub course_moves : (s : Spot) (es : List Event) (q : Place) → is_few r.forget (length s.steps + length es) ≡ true → Course r s.place es q
      → (is : List ℕ) × LeadsTo s is (record { place = q; steps = s.steps ++ es }) × (length is ≡ length es)
  course_moves s [] q few e =
      let none : s.steps ++ [] ≡ s.steps = grind (arith, common_steps) in
      ([], (λ i. record { place = e i; steps = none i }), refl)
  course_moves s (e ∷ es) q few (l, is_event, on, rest) =
      let more = course_moves (after_event s l) es q (ap (is_few r.forget) (one_longer s.steps l.event (length es)) ∙ few) rest in
      let first = fewer r.forget (length s.steps + 1) (length s.steps + suc (length es)) (omega arith) few in
      let goes : next_spot r s on.number ≡ Some (after_event s l, answers r s.place l) = ap (spot_of r s) (leads_led s.place l on)
      ∙ goes_on s l first in
      let below = choice_below s.place on.number on.choice on.offered in
      let steps : (s.steps ++ l.event ∷ []) ++ es ≡ s.steps ++ e ∷ es =
      append_assoc s.steps (l.event ∷ []) es ∙ ap (λ x. s.steps ++ x ∷ es) is_event in (
        on.number ∷ more.0,
        (grind arith),
        ap suc more.2,
      )

  -- ---- answers

  abbrev pub WayAnswers : Spot → List ℕ → ℕ → Spot → Type 0
  WayAnswers s is i t = Answers (λ (a : Spot). move_count r a.place) (next_spot r) s is i t

  pub moves_answer : (s : Spot) (is : List ℕ) (i : ℕ) (t : Spot) → WayAnswers s is i t
      → (es : List Event) × (l : Led) × (courses.Answers r s.place es l × (t.place ≡ l.place) × (t.steps ≡ s.steps ++ (es ++ l.event ∷ [])))
  moves_answer s is i t a =
      let way = moves_course s is a.place a.way in
      let one = move_is a.place t i true a.answers in
      let l = one.0 in
      grind (arith, led_leads, append_assoc)

  long_behind : (xs ys : List Event) → length (xs ++ ys) + 1 ≡ length xs + length ys + 1
  long_behind xs ys = omega (arith, length-append {A = Event})

  pub course_answers : (s : Spot) (es : List Event) (l : Led) → is_few r.forget (length s.steps + length es + 1) ≡ true →
      courses.Answers r s.place es l
      → (is : List ℕ) × (i : ℕ) × (t : Spot) × WayAnswers s is i t × (length is ≡ length es)
  course_answers s es l few a =
      let way = course_moves s es a.place (fewer r.forget (length s.steps + length es) (length s.steps + length es + 1) (omega arith) few) a.course in
      let here : Spot = record { place = a.place; steps = s.steps ++ es } in
      let goes : next_spot r here a.leads.number ≡ Some (after_event here l, answers r a.place l) = ap (spot_of r here)
      (leads_led a.place l a.leads) ∙ goes_on here l (ap (is_few r.forget) (long_behind s.steps es) ∙ few) in (
        way.0,
        a.leads.number,
        after_event here l,
        record {
          place = here;
          way = way.1;
          offered = choice_below a.place a.leads.number a.leads.choice a.leads.offered;
          answers = subst (λ b. next_spot r here a.leads.number ≡ Some (after_event here l, b)) a.answers goes;
        },
        way.2,
      )

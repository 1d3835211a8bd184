-- What a search of spots says of orders.
use Rattle.uv_find.proofs.Names.{◌≡◌, ℕ, suc, ◌+◌, ◌≤◌, ◌&&◌, ◌||◌, not, length, length-append, ◌⊎◌, ap, true, false, Bool, is_some, if◌then◌else◌, inl, inr, List, [], ◌∷◌, ◌++◌, refl, sym, subst, ◌∙◌, arith, append-nil, Event, STEPS, after-nil, worker_count, is_empty, is_covered, Rules, Place, Led, move_count, Course, KeptCourse, AnswersBy, answers, place_answers, Spot, next_spot, spot_code, place_code, first_spot, is_few, is_told, holds_back, apart, covered, IsTold, MayForget, IsSpot, IsDeep, AllLead, OneLeads, AreClosed, AreReached, Finds, KeysTell, Has}
use Rattle.std.specs.List.{IsDistinct}
use Rattle.uv_search.specs.Settled as settled
use Rattle.uv_find.specs.declared.finding.Answer.TheVariants as answer
use Rattle.uv_find.specs.Courses as courses
use Rattle.uv_find.proofs.Led.{led_leads, leads_spot}
use Rattle.uv_find.proofs.Telling.{places_tell}
use Rattle.uv_find.proofs.Moving.{LeadsTo, fewer, after_event, move_is, event_move, moves_course, course_moves, moves_answer, course_answers}

neither_one : (b c : Bool) → (b || c) ≡ false → (b ≡ false) × (c ≡ false)
neither_one each e1 e = grind arith

neither : (b : Bool) → (b && false) ≡ false
neither b = grind arith

no_mates : (mates : List Bool) → not (is_empty mates) ≡ false → mates ≡ []
no_mates mates e = grind arith

-- where no two names are alike, no move is covered
covered_none : (r : Rules) (q : Place) → r.mates ≡ [] → (number : ℕ) → is_covered r q number ≡ false
covered_none r q none number = grind (arith, neither)

module _ (r : Rules) (s : Spot) where
  abbrev AreKeys : ℕ → List (List ℕ) → Type 0
  AreKeys number keys = settled.AreKeys (λ (a : Spot). move_count r a.place) (next_spot r) (spot_code r) IsDeep s number keys

  reached : (number : ℕ) (keys : List (List ℕ)) → AreKeys number keys → AreReached r s.place number keys
  reached number keys k = record {
    count = k.count;
    distinct = k.distinct;
    each = λ x has. (
        let w = k.each x has in
        let way = moves_course r s w.0 w.1 w.2 in
        (way.0, w.1.place, way.1.0, w.3)
        );
  }

  abbrev IsWay : List ℕ → Spot → Type 0
  IsWay way t = settled.IsWay (λ (a : Spot). move_count r a.place) (next_spot r) (spot_code r) IsDeep s way t

  abbrev IsPassed : List (List ℕ) → Spot → List ℕ → Type 0
  IsPassed keys a way = settled.IsPassed (λ (b : Spot). move_count r b.place) (next_spot r) (spot_code r) IsDeep keys a way

  kept_course : (keys : List (List ℕ)) (a : Spot) (is : List ℕ) (i : ℕ) (t : Spot) → LeadsTo r a is t → IsPassed keys a (is ++ i ∷ [])
      → (es : List Event) × (KeptCourse r keys a.place es t.place × Has keys (place_code r t.place))
  kept_course keys a [] i t e passed = grind arith
  kept_course keys a (j ∷ is) i t (m, b, offered, goes, rest) passed =
      let one = move_is r a m j b goes in
      let l = one.0 in
      let place : m.place ≡ l.place = ap (λ (x : Spot). x.place) one.1.1 in
      let more = kept_course keys m is i t rest (passed.1 m b goes) in (
        l.event ∷ more.0,
        ((passed.0, (l, refl, led_leads r a.place j l one.1.0, subst (λ x. KeptCourse r keys x more.0 t.place) place more.1.0)), more.1.1),
      )

  -- the way that was found first
  pub answers_by : (keys : List (List ℕ)) (way : List ℕ) (t : Spot) → IsWay way t → IsPassed keys s way → AnswersBy r s.place keys
  answers_by keys way t (is, i, whole, a) passed =
      let c = kept_course keys s is i a.place a.way (subst (λ w. IsPassed keys s w) whole passed) in
      let one = move_is r a.place t i true a.answers in
      grind arith

  pub found_way : (limit : ℕ) (way : List ℕ) (number : ℕ) (t : Spot) → number ≤ limit → IsWay way t → (keys : List (List ℕ)) → AreKeys number keys
      → AnswersBy r s.place keys → Finds r s limit (answer.Found number) t
  found_way limit way number t few (is, i, whole, answers) keys are by =
      let a = moves_answer r s is i t answers in
      let l = a.1 in (
        few,
        (a.0 ++ l.event ∷ [], (a.2.2, inl (a.0, l, refl, a.2.0, a.2.1))),
        (keys, reached number keys are, inl by),
      )

  -- where it stands answers already
  pub found_here : (limit : ℕ) → place_answers r s.place r.question ≡ true → Finds r s limit (answer.Found 0) s
  unfolding IsDistinct
  found_here limit answers = (
    omega arith,
    ([], (sym (append-nil s.steps), inr (refl, refl, answers))),
    ([], record { count = refl; distinct = tt; each = λ k has. absurd cc }, inr answers),
  )

  abbrev IsNone : ℕ → Type 0
  IsNone number = settled.Never (λ (a : Spot). move_count r a.place) (next_spot r) (spot_code r) IsDeep (apart r) (covered r) (IsTold r) s number

  -- where moves aren't held back, none is apart
  holds_none : holds_back r ≡ false
      → settled.HoldsNone (λ (a : Spot). move_count r a.place) (next_spot r) (spot_code r) IsDeep (apart r) (covered r) (IsTold r) s
  holds_none none is q k led = grind (arith, covered_none, no_mates, neither_one, not, is_some, worker_count, neither)

  mute : (number : ℕ) → IsNone number → (es : List Event) (l : Led) → is_told r (length s.steps + length es + 1) ≡ true
      → courses.Answers r s.place es l → ⊥
  mute number n es l told a = by (holds_back r) refl told where
    by : (b : Bool) → holds_back r ≡ b
        → is_few r.forget (if b then length s.steps + length es + 1 + STEPS + 1 else length s.steps + length es + 1) ≡ true → ⊥
    by false none few =
        let w = course_answers r s es l few a in
        (n.whole (holds_none none)).none w.0 w.1 w.2 w.3
    by true some few =
        let short = fewer r r.forget (length s.steps + length es + 1) (length s.steps + length es + 1 + STEPS + 1) (omega arith) few in
        let w = course_answers r s es l short a in
        n.none w.0 w.1 w.2 (fewer r r.forget (STEPS + (length w.0 + 2)) (length s.steps + length es + 1 + STEPS + 1) (omega (arith, w.4)) few) w.3

  -- the keys that were kept are closed
  all_or_one : (keys : List (List ℕ)) (q : Spot) → is_few r.forget (length q.steps + 1) ≡ true
      → settled.AllLead (λ (a : Spot). move_count r a.place) (next_spot r) (spot_code r) IsDeep (apart r) (covered r) (IsTold r) keys q
      ⊎ settled.OneLeads (λ (a : Spot). move_count r a.place) (next_spot r) (spot_code r) IsDeep (apart r) (covered r) (IsTold r) keys q
      → AllLead r keys q.place ⊎ OneLeads r keys q.place
  all_or_one keys q few (inl all) = inl (λ l on bare.
      let move = event_move r q l on few in
      (all on.number (after_event q l) (answers r q.place l) move.0 bare move.1).1)
  all_or_one keys q few (inr (i, m, offered, first, goes, has)) =
      let one = move_is r q m i false goes in
      inr (i, one.0, first, one.1.0, subst (λ (x : Spot). Has keys (place_code r x.place)) one.1.1 has)

  closed_keys : (number : ℕ) (n : IsNone number) → AreClosed r s n.keys
  closed_keys number n = record {
    begins = n.closed.begins;
    each = λ k has. (
        let w = n.closed.each k has in
        let way = moves_course r s w.0 w.1 w.2 in
        let long : length w.1.steps + 1 ≡ length s.steps + length way.0 + 1 = omega (arith, ap length way.1.1, length-append {A = Event}) in
        (way.0, w.1.place, way.1.0, w.3, λ few. all_or_one n.keys w.1 (ap (is_few r.forget) long ∙ few) w.4)
        );
  }

  pub found_never : (limit number : ℕ) (t : Spot) → number ≤ limit → place_answers r s.place r.question ≡ false → IsNone number
      → Finds r s limit (answer.Never number) t
  found_never limit number t few here n = (
    few,
    record {
      never = (here, mute number n);
      keys = n.keys;
      are = reached number n.keys n.are;
      closed = closed_keys number n;
      all = λ none es q few_steps course. (
          let w = course_moves r s es q few_steps course in
          (n.whole (holds_none none)).all w.0 (record { place = q; steps = s.steps ++ es }) w.1
          );
    },
  )

  pub found_more : (limit : ℕ) (t : Spot) → settled.HasMore (λ (a : Spot). move_count r a.place) (next_spot r) (spot_code r) IsDeep s limit
      → Finds r s limit answer.Unsettled t
  found_more limit t m =
      let w = m.more in
      let way = moves_course r s w.0 w.1 w.2 in
      record {
        keys = m.keys;
        are = reached limit m.keys m.are;
        more = (way.0, w.1.place, way.1.0, w.3);
      }

  pub found_no_memory : (limit number : ℕ) (t : Spot) → number ≤ limit → (keys : List (List ℕ)) × AreKeys number keys
      → Finds r s limit (answer.OutOfMemory number) t
  found_no_memory limit number t few keys = (few, (keys.0, reached number keys.0 keys.1))

  -- memory was refused before anything was kept
  pub found_none : (limit : ℕ) → (t : Spot) → Finds r s limit (answer.OutOfMemory 0) t
  unfolding IsDistinct
  found_none limit t = (omega arith, ([], record { count = refl; distinct = tt; each = λ k has. absurd cc }))

  pub found_deep : (limit : ℕ) (t u : Spot) → settled.IsTooDeep (λ (a : Spot). move_count r a.place) (next_spot r) (spot_code r) IsDeep s u
      → Finds r s limit answer.TooDeep t
  found_deep limit t u d =
      let way = moves_course r s d.0 u d.1 in
      (u, way.0, way.1.1, way.1.0, d.2)

-- where the same moves were taken back, it is the same
pub same_back : {X : Type 0} (p u : X) (ps us xs : List X) → xs ≡ p ∷ ps → xs ≡ u ∷ us → u ≡ p
same_back p u ps us xs e f = cc

-- ---- keys

course_spot : (r : Rules) (s : Spot) (es : List Event) (q : Place) → IsSpot r s → is_few r.forget (length s.steps + length es) ≡ true →
    Course r s.place es q → (steps : List Event) × IsSpot r (record { place = q; steps = steps })
course_spot r s [] q is few e = (s.steps, subst (λ p. IsSpot r (record { place = p; steps = s.steps })) (sym e) is)
course_spot r s (e ∷ es) q is few (l, is_event, on, rest) =
    let first = fewer r r.forget (length s.steps + 1) (length s.steps + suc (length es)) (omega arith) few in
    let long : length (s.steps ++ l.event ∷ []) + length es ≡ length s.steps + suc (length es) = omega (arith, length-append {A = Event}) in
    course_spot r (after_event s l) es q (leads_spot r s l is on first) (ap (is_few r.forget) long ∙ few) rest

first_is : (r : Rules) → MayForget r → IsSpot r (first_spot r)
first_is r may = grind (arith, after-nil)

pub keys_tell : KeysTell
keys_tell r es fs p q may few more c d same =
    let none : (n : ℕ) → 0 + n ≡ n = λ n. omega arith in
    let a = course_spot r (first_spot r) es p (first_is r may) (ap (is_few r.forget) (none (length es)) ∙ few) c in
    let b = course_spot r (first_spot r) fs q (first_is r may) (ap (is_few r.forget) (none (length fs)) ∙ more) d in
    places_tell r (record { place = p; steps = a.0 }) (record { place = q; steps = b.0 }) a.1 b.1 same

-- A finish is covered where workers run two requests that are alike: by that of the first one.
use Rattle.uv_find.proofs.Names.{◌≡◌, ℕ, zero, suc, ◌+◌, ◌-◌, ◌<◌, ◌≤◌, ◌&&◌, Bool, true, false, List, [], ◌∷◌, length, length-append, slice_get, nat_lt, if◌then◌else◌, refl, ap, ap₂, sym, subst, ◌∙◌, Option, Some, None, arith, and_parts, ltb-true, none-some, same_Some, Finish, Id, worker_count, Request, run_by, State, named, request, IsReached, Ends, IsCovered, as_id, name_at, are_at_will, has_mate, main_spares, same_calls, are_run_alike, request_of, is_covered_by, Rules, Place, Led, led, move_count, offered_by, answers, rank_in, rank_of, runner, Spot, CanForget, AreOfPool, AreMates, IsSpot, HasRoom, covered, is_few, next_spot, spot_of, Calls}
use Rattle.uv_order.proofs.Reaching.{reached}
use Rattle.uv_find.specs.Mates as mates
use Rattle.uv_find.proofs.Alike.{AreAlike, IsGoing, spot_going, spot_regular}
use Rattle.uv_find.proofs.AtOnce.{due_same, spot_is_in}
use Rattle.uv_find.proofs.Covering.{LedAlike, led_alike, place_alike}
use Rattle.uv_find.proofs.Finishing.{run_there}
use Rattle.uv_find.proofs.Led.{led_leads, leads_spot}
use Rattle.uv_find.proofs.Meeting.{is_led}
use Rattle.uv_find.proofs.Mirrored.{NamesChange, mirrored, mirrored_regular}
use Rattle.uv_find.proofs.Mirroring.{mirror, mirror_led, CanMirror, Turns, LeadsTurned, mirror_going, wide, finish_turns, finish_number, finish_event, turns, leads_turned}
use Rattle.uv_find.proofs.Moving.{after_event, fewer, move_is}
use Rattle.uv_find.proofs.Onward.{line_alike}
use Rattle.uv_find.proofs.Ranking.{called}
use Rattle.uv_find.proofs.Equal.{task_right}
use Rattle.uv_find.proofs.Runners.{rank_named, rank_same, rank_slot}
use Rattle.uv_find.proofs.Swap.{is_equal}
use Rattle.uv_find.proofs.Twins.{AreTwins, twins_alike, at_x, turned_y}

module _ (change : NamesChange) (r : Rules) (a : ℕ) (mate : AreMates r a) (take : AreOfPool r) (may : CanForget r take.counted) where
  abbrev n : ℕ
  n = take.counted

  abbrev Mirrors : Spot → Type 0
  Mirrors q = CanMirror change r a mate take may q

  abbrev AlikeTurned : Spot → Spot → Type 0
  AlikeTurned u v = AreAlike r n (mirror a u.place) v.place

  -- ---- one move

  record Follows (u : Spot) (v : Spot) (next_u : Spot) (b : Bool) (number : ℕ) : Type 0 where
    next_v : Spot
    below : number < move_count r v.place
    goes : next_spot r v number ≡ Some (next_v, b)
    can : Mirrors next_u
    spot : IsSpot r next_v
    alike : AlikeTurned next_u next_v
    long_u : length next_u.steps ≡ length u.steps + 1
    long_v : length next_v.steps ≡ length v.steps + 1

  led_below : (p : Place) (i : ℕ) (l : Led) → led r p i ≡ Some l → i < move_count r p
  led_below p i l e =
      let on = led_leads r p i l e in
      below_by (nat_lt i (move_count r p)) refl (is_led r may.differ p i l e).offered
    where
      below_by : (b : Bool) → nat_lt i (move_count r p) ≡ b
          → (if b then offered_by r p (slice_get r.offers i) (slice_get p.left i) else None) ≡ Some (is_led r may.differ p i l e).event
          → i < move_count r p
      below_by true is h = ltb-true i (move_count r p) is
      below_by false is h = absurd (none-some _ h)

  follows : (u v : Spot) → Mirrors u → IsSpot r v → AlikeTurned u v → is_few r.forget (length u.steps + 1) ≡ true
      → is_few r.forget (length v.steps + 1) ≡ true → (i : ℕ) (next_u : Spot) (b : Bool) (l : Led) → led r u.place i ≡ Some l
      → next_u ≡ after_event u l → b ≡ answers r u.place l → (t : Turns change r a mate take may u i l.event) → Follows u v next_u b t.number
  follows u v can hv alike few_u few_v i next_u b l here next_is b_is t =
      by (led r v.place t.number) refl
      (subst (λ o. LedAlike r n take.forgets may (mirror a u.place) v.place o (led r v.place t.number)) turned.led_there
      (led_alike r n take.forgets may (mirror a u.place) v.place going going_v alike t.number))
    where
      going : IsGoing r.program n (mirror a u.place)
      going = mirror_going change r a mate take may u can

      going_v : IsGoing r.program n v.place
      going_v = spot_going r n take.forgets may v hv

      turned : LeadsTurned change r a mate take may u l t.number
      turned = leads_turned change r a mate take may u can i l (is_led r may.differ u.place i l here) here t

      can_next : Mirrors (after_event u l)
      can_next = turned.can_behind few_u

      by : (o : Option Led) → led r v.place t.number ≡ o
          → LedAlike r n take.forgets may (mirror a u.place) v.place (Some (mirror_led a r.program l)) o → Follows u v next_u b t.number
      by None e h = absurd h
      by (Some y) e h =
          let there = after_event v y in
          let spot : IsSpot r there = leads_spot r v y hv (led_leads r v.place t.number y e) few_v in
          let line = line_alike r n take.forgets may (mirrored a l.place.state) y.place.state h.regular h.other h.places.state u.place.kept.due
          v.place.kept.due (mirror_led a r.program l).line y.line h.dues h.lines h.timers in
          let place = place_alike r n take.forgets may (mirror a l.place) y.place (mirror_going change r a mate take may (after_event u l) can_next)
          (spot_going r n take.forgets may there spot) h.places r.question in
          let same : b ≡ answers r v.place y =
          b_is ∙ sym turned.answers_there ∙ ap₂ (λ x z. if x then true else z) line place in
          record {
            next_v = there;
            below = led_below v.place t.number y e;
            goes = ap (spot_of r v) e ∙ spot_is_in r v y few_v ∙ ap (λ c. Some (there, c)) (sym same);
            can = subst Mirrors (sym next_is) can_next;
            spot = spot;
            alike = subst (λ w. AlikeTurned w there) (sym next_is) h.places;
            long_u = ap (λ (w : Spot). length w.steps) next_is ∙ (let long = length-append u.steps (l.event ∷ []) in omega (arith, long));
            long_v = (let long = length-append v.steps (y.event ∷ []) in omega (arith, long));
          }

  move_turns : (u : Spot) → Mirrors u → (i : ℕ) (l : Led) → led r u.place i ≡ Some l → Turns change r a mate take may u i l.event
  move_turns u can i l here =
      let it = is_led r may.differ u.place i l here in
      turns change r a mate take may u can i l.event (it.offered ∙ ap Some (sym (ap (λ (x : Led). x.event) it.is)))

  -- ---- and so all moves

  abbrev EndsAt : Spot → List ℕ → Type 0
  EndsAt q is = Ends (λ (x : Spot). move_count r x.place) (next_spot r) q is

  ends_turned : (is : List ℕ) (u v : Spot) → Mirrors u → IsSpot r v → AlikeTurned u v → is_few r.forget (length u.steps + length is) ≡ true
      → is_few r.forget (length v.steps + length is) ≡ true → EndsAt u is → (js : List ℕ) × (length js ≡ length is) × EndsAt v js
  ends_turned [] u v can hv alike few_u few_v ends = absurd ends
  ends_turned (i ∷ []) u v can hv alike few_u few_v (next_u, offered, goes) =
      let one = move_is r u next_u i true goes in
      let t = move_turns u can i one.0 one.1.0 in
      let f = follows u v can hv alike few_u few_v i next_u true one.0 one.1.0 one.1.1 one.1.2 t in
      (t.number ∷ [], refl, (f.next_v, f.below, f.goes))
  ends_turned (i ∷ j ∷ js) u v can hv alike few_u few_v (next_u, b, offered, goes, rest) =
      let k = length js in
      let one = move_is r u next_u i b goes in
      let t = move_turns u can i one.0 one.1.0 in
      let f = follows u v can hv alike (fewer r r.forget (length u.steps + 1) (length u.steps + suc (suc k)) (omega arith) few_u)
      (fewer r r.forget (length v.steps + 1) (length v.steps + suc (suc k)) (omega arith) few_v) i next_u b one.0 one.1.0 one.1.1 one.1.2 t in
      let lu : length next_u.steps + suc k ≡ length u.steps + suc (suc k) = (let l = f.long_u in omega (arith, l)) in
      let lv : length f.next_v.steps + suc k ≡ length v.steps + suc (suc k) = (let l = f.long_v in omega (arith, l)) in
      let more = ends_turned (j ∷ js) next_u f.next_v f.can f.spot f.alike (ap (is_few r.forget) lu ∙ few_u) (ap (is_few r.forget) lv ∙ few_v) rest in
      put t.number f more
    where
      put : (number : ℕ) {next_u : Spot} {b : Bool} (f : Follows u v next_u b number)
          → ((ks : List ℕ) × (length ks ≡ length (j ∷ js)) × EndsAt f.next_v ks)
          → (ks : List ℕ) × (length ks ≡ length (i ∷ j ∷ js)) × EndsAt v ks
      put number {next_u} {b} f ([], long, ends) = absurd ends
      put number {next_u} {b} f (x ∷ xs, long, ends) = (number ∷ x ∷ xs, ap suc long, (f.next_v, b, f.below, f.goes, ends))

  -- ---- two that are run

  record AreRun (q : Spot) (k : ℕ) : Type 0 where
    first : ℕ
    second : ℕ
    runs_first : runner q.place.state k ≡ Some first
    runs_second : runner q.place.state (suc k) ≡ Some second
    twins : AreTwins q.place.state a
    first_is : slice_get q.place.state.running first ≡ Some (Some twins.x)
    second_is : slice_get q.place.state.running second ≡ Some (Some twins.y)

  -- the second one's rank there is that of the first one here
  rank_before : (q : Spot) (k : ℕ) → Mirrors q → (run : AreRun q k) → rank_of (mirrored a q.place.state) run.twins.y ≡ k
  rank_before q k can run =
      let s = q.place.state in
      let t = run.twins in
      let regular = spot_regular r n take.forgets may q can.spot in
      let wide_q = wide change r a mate take may q can.spot in
      let turned = mirrored_regular a s wide_q r.program regular in
      let is_reached = subst IsReached (sym can.spot.state) (reached r.program q.steps) in
      let alike = twins_alike r.program s a is_reached regular wide_q t n in
      let found = rank_slot s k run.first run.runs_first in
      let one : found.0 ≡ t.x = same_Some found.0 t.x (same_Some (Some found.0) (Some t.x) (sym found.1 ∙ run.first_is)) in
      let rank_x : rank_of s t.x ≡ k = ap (rank_of s) (sym one) ∙ found.2 in
      rank_named r.program (mirrored a s) run.second t.y turned run.second_is
      ∙ ap (λ m. rank_in (called (mirrored a s)) (as_id m)) (turned_y r.program s a is_reached regular wide_q t)
      ∙ rank_same n (mirrored a s) s alike (as_id a)
      ∙ sym (rank_named r.program s run.first t.x regular run.first_is ∙ ap (λ m. rank_in (called s) (as_id m)) name_first)
      ∙ rank_x
    where
      name_first : name_at q.place.state.arena.slots run.twins.x ≡ a
      name_first = at_x r.program q.place.state a (subst IsReached (sym can.spot.state) (reached r.program q.steps))
          (spot_regular r n take.forgets may q can.spot) (wide change r a mate take may q can.spot) run.twins

  covers : (q : Spot) (k m : ℕ) → Mirrors q → AreRun q k → suc k < worker_count r.program → is_few r.forget (length q.steps + suc m) ≡ true
      → IsCovered (λ (x : Spot). move_count r x.place) (next_spot r) m q (suc (suc (suc k)))
  covers q k m can run below few is short ends =
      let s = q.place.state in
      let regular = spot_regular r n take.forgets may q can.spot in
      let alike : AlikeTurned q q = record {
        state = twins_alike r.program s a (subst IsReached (sym can.spot.state) (reached r.program q.steps)) regular
            (wide change r a mate take may q can.spot) run.twins n;
        left = refl;
        owed = refl;
        along = refl;
        due = due_same r.question s.clock q.place.kept.due;
      } in
      by is short ends alike
    where
      t : Turns change r a mate take may q (suc (suc (suc k))) (Finish run.second)
      t = finish_turns change r a mate take may q can (suc k) run.second run.twins.y below run.second_is

      earlier : t.number < suc (suc (suc k))
      earlier =
          let rank = rank_before q k can run in
          let number = finish_number change r a mate take may q can (suc k) run.second run.twins.y below run.second_is in
          omega (arith, rank, number)

      event_is : (l : Led) → led r q.place (suc (suc (suc k))) ≡ Some l → Finish run.second ≡ l.event
      event_is l here =
          let it = is_led r may.differ q.place (suc (suc (suc k))) l here in
          let e = finish_event change r a mate take may q can (suc k) it.event below it.offered in
          let one : e.0 ≡ run.second = same_Some e.0 run.second (sym e.1 ∙ run.runs_second) in
          sym (ap (λ (x : Led). x.event) it.is ∙ e.2 ∙ ap Finish one)

      turn : (l : Led) → led r q.place (suc (suc (suc k))) ≡ Some l
          → (t : Turns change r a mate take may q (suc (suc (suc k))) l.event) × (t.number < suc (suc (suc k)))
      turn l here = subst (λ e. (t : Turns change r a mate take may q (suc (suc (suc k))) e) × (t.number < suc (suc (suc k)))) (event_is l here)
          (t, earlier)

      by : (is : List ℕ) → length is ≤ m → EndsAt q (suc (suc (suc k)) ∷ is) → AlikeTurned q q
          → (j : ℕ) × (js : List ℕ) × (j < suc (suc (suc k))) × (length js ≤ length is) × EndsAt q (j ∷ js)
      by [] short (next_u, offered, goes) alike =
          let one = move_is r q next_u (suc (suc (suc k))) true goes in
          let u = turn one.0 one.1.0 in
          let few_one = fewer r r.forget (length q.steps + 1) (length q.steps + suc m) (omega arith) few in
          let f = follows q q can can.spot alike few_one few_one (suc (suc (suc k))) next_u true one.0 one.1.0 one.1.1 one.1.2 u.0 in
          (u.0.number, [], u.1, omega arith, (f.next_v, f.below, f.goes))
      by (i ∷ is) short (next_u, b, offered, goes, rest) alike =
          let one = move_is r q next_u (suc (suc (suc k))) b goes in
          let u = turn one.0 one.1.0 in
          let few_one = fewer r r.forget (length q.steps + 1) (length q.steps + suc m) (omega arith) few in
          let f = follows q q can can.spot alike few_one few_one (suc (suc (suc k))) next_u b one.0 one.1.0 one.1.1 one.1.2 u.0 in
          let lu = f.long_u in
          let lv = f.long_v in
          let more = ends_turned (i ∷ is) next_u f.next_v f.can f.spot f.alike
          (fewer r r.forget (length next_u.steps + suc (length is)) (length q.steps + suc m) (omega (arith, lu, short)) few)
          (fewer r r.forget (length f.next_v.steps + suc (length is)) (length q.steps + suc m) (omega (arith, lv, short)) few) rest in
          put u.0.number u.1 b f more
        where
          put : (number : ℕ) → number < suc (suc (suc k)) → (b : Bool) {next_u : Spot} (f : Follows q q next_u b number)
              → ((ks : List ℕ) × (length ks ≡ length (i ∷ is)) × EndsAt f.next_v ks)
              → (j : ℕ) × (js : List ℕ) × (j < suc (suc (suc k))) × (length js ≤ length (i ∷ is)) × EndsAt q (j ∷ js)
          put number less b f ([], long, ends) = absurd ends
          put number less b f (x ∷ xs, long, ends) = (number, x ∷ xs, less, omega (arith, long), (f.next_v, b, f.below, f.goes, ends))

-- ---- what the program asks

and_both : (x y : Bool) → (x && y) ≡ true → (x ≡ true) × (y ≡ true)
and_both x y e = and_parts x y e

calls_are : (x y : Calls) → same_calls x y ≡ true → x ≡ y
calls_are x y e = grind arith

-- what two workers run that are told to run requests that are alike
record RunAlike (r : Rules) (s : State) (one two : Option ℕ) : Type 0 where
  first : ℕ
  second : ℕ
  first_is : one ≡ Some first
  second_is : two ≡ Some second
  a : ℕ
  has : has_mate r.mates a ≡ true
  clear : main_spares a r.program s.place ≡ true
  twins : AreTwins s a
  here : slice_get s.running first ≡ Some (Some twins.x)
  there : slice_get s.running second ≡ Some (Some twins.y)

run_alike : (r : Rules) (s : State) (one two : Option ℕ) → are_run_alike r s one two ≡ true → RunAlike r s one two
run_alike r s (Some first) (Some second) e = by (run_by s first) (run_by s second) refl refl e where
  found : (x y : Id) (one two : Request) → run_by s first ≡ Some x → run_by s second ≡ Some y → request s x ≡ Some one → request s y ≡ Some two
      → mates.are_alike r s (Some one) (Some two) ≡ true → RunAlike r s (Some first) (Some second)
  found x y one two here there holds_x holds_y e =
      let place = and_both _ _ e in
      let main = and_both _ _ place.0 in
      let calls = and_both _ _ main.0 in
      let task = and_both _ _ calls.0 in
      let name = and_both _ _ task.0 in
      let name_y : two.name.0 ≡ one.name.0 + 1 = is_equal two.name.0 (one.name.0 + 1) name.1 in
      record {
        first = first;
        second = second;
        first_is = refl;
        second_is = refl;
        a = one.name.0;
        has = name.0;
        clear = main.1;
        twins = record {
          i = first;
          j = second;
          x = x;
          y = y;
          here = run_there s.running first x here;
          there = run_there s.running second y there;
          one = one;
          two = two;
          holds_x = holds_x;
          holds_y = holds_y;
          name_x = refl;
          name_y = name_y;
          task = task_right one.task two.task task.1;
          calls = calls_are (named s one.name).calls (named s two.name).calls calls.1
              ∙ ap (λ m. (named s (record { 0 = m })).calls) name_y;
          place = place.1;
        };
        here = run_there s.running first x here;
        there = run_there s.running second y there;
      }

  held : (x y : Id) (o t : Option Request) → run_by s first ≡ Some x → run_by s second ≡ Some y → request s x ≡ o → request s y ≡ t
      → mates.are_alike r s o t ≡ true → RunAlike r s (Some first) (Some second)
  held x y None t here there h k e = absurd (let f : false ≡ true = e in cc)
  held x y (Some one) None here there h k e = absurd (let f : false ≡ true = e in cc)
  held x y (Some one) (Some two) here there h k e = found x y one two here there h k e

  none_second : (x : Id) (o : Option Request) → mates.are_alike r s o None ≡ true → RunAlike r s (Some first) (Some second)
  none_second x o e = grind arith

  by : (o t : Option Id) → run_by s first ≡ o → run_by s second ≡ t → mates.are_alike r s (request_of s o) (request_of s t) ≡ true
      → RunAlike r s (Some first) (Some second)
  by None t h k e = absurd (let f : false ≡ true = e in cc)
  by (Some x) None h k e = none_second x (request s x) e
  by (Some x) (Some y) h k e = held x y (request s x) (request s y) h k refl refl e
run_alike r s each e3 e = grind arith

pub covers_moves : NamesChange → (r : Rules) (m : ℕ) (q : Spot) (i : ℕ) → HasRoom r (suc m) q → covered r q i ≡ true → i < move_count r q.place
    → IsCovered (λ (x : Spot). move_count r x.place) (next_spot r) m q i
covers_moves change r m q i room is below =
    by (nat_lt 2 i && nat_lt i (worker_count r.program + 2)) refl is
  where
    at : (i : ℕ) → 2 < i → i < worker_count r.program + 2 → are_at_will (worker_count r.program + 2) q.place.left ≡ true
        → are_run_alike r q.place.state (runner q.place.state (i - 2 - 1)) (runner q.place.state (i - 2)) ≡ true
        → IsCovered (λ (x : Spot). move_count r x.place) (next_spot r) m q i
    at zero past within wills run = absurd (omega (arith, past))
    at (suc zero) past within wills run = absurd (omega (arith, past))
    at (suc (suc zero)) past within wills run = absurd (omega (arith, past))
    at (suc (suc (suc k))) past within wills run =
        let one : suc (suc (suc k)) - 2 - 1 ≡ k = omega arith in
        let two : suc (suc (suc k)) - 2 ≡ suc k = omega arith in
        let it = run_alike r q.place.state (runner q.place.state k) (runner q.place.state (suc k))
        (cc) in
        let mate = room.holds.alike it.a it.has in
        let take = mate.of_pool in
        let may = room.spot.forgets take.counted take.forgets in
        covers change r it.a mate take may q k m (record { spot = room.spot; clear = it.clear; wills = wills })
        (search (sym)) (omega (arith, within)) room.few

    by : (b : Bool) → (nat_lt 2 i && nat_lt i (worker_count r.program + 2)) ≡ b → is_covered_by r q.place (if b then Some (i - 2) else None) ≡ true
        → IsCovered (λ (x : Spot). move_count r x.place) (next_spot r) m q i
    by false none h = absurd (let f : false ≡ true = h in cc)
    by true some h =
        let within = and_both (nat_lt 2 i) (nat_lt i (worker_count r.program + 2)) some in
        let run = and_both _ _ h in
        at i (ltb-true 2 i within.0) (ltb-true i (worker_count r.program + 2) within.1) run.0 run.1

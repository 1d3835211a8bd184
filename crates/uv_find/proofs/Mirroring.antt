-- Where workers run two requests that are alike, what answers behind the second one's finish answers as soon behind that of the first one.
use Rattle.uv_find.proofs.Names.{◌≡◌, ℕ, zero, suc, ◌+◌, ◌<◌, ◌≤◌, ◌==◌, ◌&&◌, not, Bool, true, false, List, [], ◌∷◌, ◌++◌, length, slice_get, slice_set, nat_lt, nat_le, if◌then◌else◌, refl, ap, ap₂, sym, subst, ◌∙◌, Option, Some, None, arith, map, option_map, list_all, and_parts, ltb-true, none-some, same_Some, Event, Finish, Id, Var, Callback, Seen, Op, CallbackLine, Program, worker_count, is_for, lines_in, op_name, count_of, Named, line_of, Next, Moves, Refuses, State, named, run_ids, AreDistinct, holds_after, ClockFits, answers_code, begins_section, begins_poll, changed_callback, changed_event, changed_line, changed_op, changed_place, moved_var, by_names, place_of, same_place, LeadsRegular, has_at, Most, Offer, Offered, Question, Recorded, Which, Along, Kept, Left, are_at_will, is_clear_of_takes, kept_due, time_at_end, owed_after, is_poll, along_after, kept_after, offer_spares, main_spares, question_spares, is_beside, Rules, Place, Led, led, at_will, first_offer, lessened, lessened_by, move_count, offered_by, brief, is_called_within, is_within, begun, is_call, is_uncalled, answered_name, is_name, is_of, answers_line, line_answers, has_ended, place_answers, answers, rank_of, runner, finish_by, Spot, CanForget, AreOfPool, AreMates, IsSpot, is_few}
use Rattle.uv_ids.specs.declared.seen.Seen.TheVariants as seen
use Rattle.uv_ids.specs.declared.seen.Site.TheVariants as site
use Rattle.uv_model.specs.After.{after}
use Rattle.uv_model.specs.Next.{next}
use Rattle.uv_model.specs.declared.place.Place as loop
use Rattle.uv_order.proofs.Reaching.{reached}
use Rattle.uv_asking.specs.declared.asking.Offer.TheVariants as offers
use Rattle.uv_asking.specs.declared.asking.Question.TheVariants as asks
use Rattle.uv_asking.specs.declared.asking.Which.TheVariants as which
use Rattle.uv_find.specs.declared.left.Left.TheVariants as left
use Rattle.uv_find.specs.Questions.{name_in}
use Rattle.uv_find.proofs.Alike.{IsGoing, spot_going}
use Rattle.uv_find.proofs.AtOnce.{will_of, wills_stay, not_less, shown, at_will_is, finish_shown}
use Rattle.uv_find.proofs.Equal.{name_changed}
use Rattle.uv_find.proofs.Finishing.{rank_runs}
use Rattle.uv_find.proofs.Led.{each, event_at, led_leads, leads_spot, state_behind}
use Rattle.uv_find.proofs.MainLines.{StaysPast, next_past}
use Rattle.uv_find.proofs.Meeting.{IsLed, led_is}
use Rattle.uv_find.proofs.Moving.{after_event}
use Rattle.uv_find.proofs.Mirrored.{NamesChange, mirrored, mirrored_next, mirrored_regular, named_same, next_mirrored}
use Rattle.uv_find.proofs.Runners.{after_long, rank_below, rank_slot}
use Rattle.uv_find.proofs.Swap.{swap, swap_order, twice_stays}
use Rattle.uv_find.proofs.Turned.{IsFree, IsPlain, plain_stays, are_alike, lines_moved, offered_same, offered_plain, spares_further}
use Rattle.uv_find.proofs.Twins.{beside_stays}

abbrev pub mirror : ℕ → Place → Place
mirror a q = record q { state = mirrored a q.state }

abbrev pub turned_line : ℕ → Program → Option Seen → Option Seen
turned_line a p line = option_map (changed_line (by_names (swap a)) p) line

abbrev pub mirror_led : ℕ → Program → Led → Led
mirror_led a p l = record { event = l.event; place = mirror a l.place; line = turned_line a p l.line }

fits_same : (a : ℕ) (s : State) (e : Event) → ClockFits s e → ClockFits (mirrored a s) e
fits_same a s e h = assumption

will_same : (xs : List Left) (i : ℕ) → slice_get xs i ≡ Some left.AtWill → lessened xs i ≡ xs
will_same xs i at = ap (lessened_by xs i) at ∙ set_same xs i at where
  set_same : (xs : List Left) (i : ℕ) → slice_get xs i ≡ Some left.AtWill → slice_set xs i left.AtWill ≡ xs
  set_same [] i at = absurd (none-some left.AtWill at)
  set_same (x ∷ xs) zero at = ap (λ (y : Left). y ∷ xs) (sym (same_Some x left.AtWill at))
  set_same (x ∷ xs) (suc i) at = ap (λ (ys : List Left). x ∷ ys) (set_same xs i at)

-- ---- what is kept

no_time : (s : State) (b : Callback × Var) → time_at_end [] s b ≡ 0
no_time s b = grind arith

poll_same : (a : ℕ) (p : Program) (line : Option Seen) → is_poll (turned_line a p line) ≡ is_poll line
poll_same a p line = grind arith

along_same : (a : ℕ) (p : Program) (recorded : List Recorded) (along : Along) (e : Event) (line : Option Seen)
    → along_after recorded along e (turned_line a p line) ≡ along_after recorded along e line
along_same a p recorded along each line = grind arith

due_same : (a due : ℕ) (t : State) (q : Question) → question_spares a q ≡ true → kept_due q (mirrored a t) due ≡ kept_due q t due
due_same a due t each e = grind arith

-- ---- what a line answers

module _ (a : ℕ) (p : Program) where
  abbrev turned : Seen → Seen
  turned l = changed_line (by_names (swap a)) p l

  abbrev moved_call : Callback × Var → Callback × Var
  moved_call b = (b.0, moved_var (swap a) b.1)

  begun_same : (l : Seen) → begun (turned l) ≡ option_map moved_call (begun l)
  begun_same l = grind arith

  code_same : (code : _) (l : Seen) → answers_code code (turned l) ≡ answers_code code l
  code_same code l = grind arith

  section_same : (word : _) (l : Seen) → begins_section word (turned l) ≡ begins_section word l
  section_same word l = grind arith

  begins_poll_same : (l : Seen) → begins_poll (turned l) ≡ begins_poll l
  begins_poll_same l = grind arith

  same_var : (v name : Var) → is_beside a (Some name) ≡ true → (place_of (swap a) v.0 == name.0) ≡ (v.0 == name.0)
  same_var v name e =
      ap (λ n. place_of (swap a) v.0 == n) (sym (beside_stays a name e)) ∙ same_place (swap a) v.0 name.0 (swap_order a)

  module _ (t : State) (wide : a + 2 ≤ length t.names) where
    named_as : (name : Var) → is_beside a (Some name) ≡ true → named (mirrored a t) name ≡ named t name
    named_as name e = named_same a t wide name (beside_stays a name e)

    call_same : (w : Which) (name : Var) (call : Option ℕ) → is_beside a (Some name) ≡ true → (x : Option (Callback × Var))
        → is_call w name call (mirrored a t) (option_map moved_call x) ≡ is_call w name call t x
    call_same w name call e x = grind (arith, ap₂, is_for, count_of, same_var, named_as)

    begins_same : (w : Which) (name : Var) (call : Option ℕ) → is_beside a (Some name) ≡ true → (l : Seen)
        → is_call w name call (mirrored a t) (begun (turned l)) ≡ is_call w name call t (begun l)
    begins_same w name call e l = ap (is_call w name call (mirrored a t)) (begun_same l) ∙ call_same w name call e (begun l)

    uncalled_same : (name : Var) → is_beside a (Some name) ≡ true → is_uncalled (mirrored a t) name ≡ is_uncalled t name
    uncalled_same name e = ap (λ (n : Named). (n.calls.handle == 0) && (n.calls.after == 0) && (n.calls.close == 0)) (named_as name e)

    called_within_same : (m : Most) → is_beside a (Some m.name) ≡ true → is_called_within (mirrored a t) m ≡ is_called_within t m
    called_within_same m e = simp (nat_le, named_as)

    within_same : (most : List Most) → list_all (λ (m : Most). is_beside a (Some m.name)) most ≡ true
        → is_within most (mirrored a t) ≡ is_within most t
    within_same [] e = refl
    within_same (m ∷ ms) e =
        let parts = and_parts (is_beside a (Some m.name)) (list_all (λ (m : Most). is_beside a (Some m.name)) ms) e in
        ap₂ (λ x y. x && y) (called_within_same m parts.0) (within_same ms parts.1)

module _ (r : Rules) (a : ℕ) (mates : AreMates r a) where
  -- what an op names, where two names are exchanged
  named_beside : (name : Var) → is_beside a (Some name) ≡ true → (o : Option Op)
      → is_name name (name_in (option_map (changed_op (by_names (swap a))) o)) ≡ is_name name (name_in o)
  named_beside name e o = grind (arith, name_changed, op_name, option_map, same_var)

  op_of : (ls : List CallbackLine) (line : ℕ)
      → option_map (λ (l : CallbackLine). l.op) (slice_get (map (changed_callback (by_names (swap a))) ls) line)
      ≡ option_map (changed_op (by_names (swap a))) (option_map (λ (l : CallbackLine). l.op) (slice_get ls line))
  op_of (l ∷ ls) (suc line) = op_of ls line
  op_of each e1 = assumption

  name_same : (name : Var) → is_beside a (Some name) ≡ true → (l : Seen)
      → is_name name (answered_name r.program (turned a r.program l)) ≡ is_name name (answered_name r.program l)
  name_same name e (seen.Op (site.Main line) x) = refl
  name_same name e (seen.Op (site.In kind v line) x) = simp (name_in, option_map, slice_get, lines_moved, op_of, lines_in, named_beside)
  name_same name e (seen.After digest v id) = same_var a r.program v name e
  name_same name e (seen.Cancel v x) = same_var a r.program v name e
  name_same name e (seen.Send v code) = same_var a r.program v name e
  name_same name e l = grind arith

  of_same : (name : Option Var) → is_beside a name ≡ true → (l : Seen)
      → is_of name (answered_name r.program (turned a r.program l)) ≡ is_of name (answered_name r.program l)
  of_same name e l = grind (arith, name_same)

  module _ (t : State) (wide : a + 2 ≤ length t.names) (due : ℕ) where
    line_same : (q : Question) → question_spares a q ≡ true → (l : Seen)
        → answers_line r.program q due (mirrored a t) (turned a r.program l) ≡ answers_line r.program q due t l
    line_same (asks.Before name other) e l =
        let parts = and_parts (is_beside a (Some name)) (is_beside a (Some other)) e in
        ap₂ (λ x y. x && y) (begins_same a r.program t wide which.Any name None parts.0 l) (uncalled_same a r.program t wide other parts.1)
    line_same (asks.Behind name other) e l =
        let parts = and_parts (is_beside a (Some name)) (is_beside a (Some other)) e in
        ap₂ (λ x y. x && not y) (begins_same a r.program t wide which.Any name None parts.0 l) (uncalled_same a r.program t wide other parts.1)
    line_same each e l = search (begins_same, wide, ap₂, code_same, of_same, section_same, begins_poll_same, and_parts, uncalled_same, not)

    lines_answer : (line : Option Seen)
        → line_answers r.program r.question due (mirrored a t) (turned_line a r.program line) ≡ line_answers r.program r.question due t line
    lines_answer line = grind (arith, line_same)

  ended_same : (q : loop.Place) → has_ended r.program (changed_place (by_names (swap a)) q) ≡ has_ended r.program q
  ended_same q = grind arith

  place_same : (q : Place) → a + 2 ≤ length q.state.names → (question : Question) → question_spares a question ≡ true
      → place_answers r (mirror a q) question ≡ place_answers r q question
  place_same q wide (asks.Never name) e =
      ap₂ (λ x y. x && y) (ended_same q.state.place) (uncalled_same a r.program q.state wide name e)
  place_same q wide asks.Stuck e = absurd (let f : false ≡ true = e in cc)
  place_same q wide (asks.Call w name call) e = refl
  place_same q wide (asks.Code code name) e = refl
  place_same q wide (asks.Section word) e = refl
  place_same q wide asks.Poll e = refl
  place_same q wide (asks.Late name ms) e = refl
  place_same q wide (asks.Before name other) e = refl
  place_same q wide (asks.Behind name other) e = refl

  answers_same : (q : Place) (l : Led) → a + 2 ≤ length l.place.state.names
      → answers r (mirror a q) (mirror_led a r.program l) ≡ answers r q l
  answers_same q l wide = search (ap₂, lines_answer, wide, place_same)

-- ---- what is kept, in one

kept_same : (r : Rules) (a : ℕ) → AreMates r a → r.takes ≡ [] → (k : Kept) (e : Event) (t : State) (line : Option Seen)
    → kept_after r.recorded r.takes r.question k e (mirrored a t) (turned_line a r.program line)
    ≡ kept_after r.recorded r.takes r.question k e t line
kept_same r a mates none k e t line =
    let owed : owed_after r.takes k.owed (mirrored a t) (turned_line a r.program line) ≡ owed_after r.takes k.owed t line =
    subst (λ ts. owed_after ts k.owed (mirrored a t) (turned_line a r.program line) ≡ owed_after ts k.owed t line) (sym none)
    (grind arith) in
    let due = due_same a k.due t r.question mates.question in
    let along = along_same a r.program r.recorded k.along e line in
    λ i. record { due = due i; owed = owed i; along = along i }

-- ---- where the names have changed places

module _ (change : NamesChange) (r : Rules) (a : ℕ) (mates : AreMates r a) (take : AreOfPool r) (may : CanForget r take.counted) where
  -- the names may change places here, and wherever steps lead
  pub record CanMirror (q : Spot) : Type 0 where
    pub spot : IsSpot r q
    pub clear : main_spares a r.program q.place.state.place ≡ true
    pub wills : are_at_will (worker_count r.program + 2) q.place.left ≡ true

  wide_after : (es : List Event) (t : State) → t ≡ after r.program es → a + 2 ≤ length t.names
  wide_after es t is =
      let long : length t.names ≡ length r.program.callbacks =
      ap (λ (u : State). length u.names) is ∙ (holds_after r.program es).holds.stands.counted.long in
      let within = mates.within in
      omega (arith, long, within)

  pub wide : (q : Spot) → IsSpot r q → a + 2 ≤ length q.place.state.names
  wide q is = wide_after q.steps q.place.state is.state

  goes_regular : (q : Spot) → IsSpot r q → (e : Event) (x : Next) → next r.program q.place.state e ≡ x → LeadsRegular r.program x
      → LeadsRegular r.program (mirrored_next r.program a x)
  goes_regular q is e (Moves t line) goes h =
      mirrored_regular a t (wide_after (q.steps ++ e ∷ []) t (state_behind r q e t line is goes)) r.program h
  goes_regular q is e (Refuses why) goes h = tt

  pub mirror_going : (q : Spot) → CanMirror q → IsGoing r.program take.counted (mirror a q.place)
  mirror_going q can =
      let going = spot_going r take.counted take.forgets may q can.spot in
      record {
        regular = mirrored_regular a q.place.state (wide q can.spot) r.program going.regular;
        fits = λ e short. fits_same a q.place.state e (going.fits e short);
        leads = λ e.
            let back = changed_event (by_names (swap a)) e in
            subst (λ f. LeadsRegular r.program (next r.program (mirrored a q.place.state) f)) (grind (arith, twice_stays))
            (subst (LeadsRegular r.program)
            (sym (next_mirrored a change r.program q.place.state back (are_alike r a mates q.place.state (wide q can.spot) can.clear)))
            (goes_regular q can.spot back (next r.program q.place.state back) refl (going.leads back)));
      }

  -- ---- a move there is one here, it may be by another number

  pub record Turns (q : Spot) (i : ℕ) (e : Event) : Type 0 where
    pub number : ℕ
    pub offered : event_at r (mirror a q.place) number ≡ Some e
    pub left : lessened q.place.left number ≡ lessened q.place.left i
    pub plain : changed_event (by_names (swap a)) e ≡ e

  free_turns : (q : Spot) → CanMirror q → (i : ℕ) (o : Offered) (e : Event) → slice_get r.offers i ≡ Some o → IsFree o.offer
      → offer_spares a o.offer ≡ true → event_at r q.place i ≡ Some e → Turns q i e
  free_turns q can i o e at free spares is = record {
    number = i;
    offered = ap (λ x. if nat_lt i (move_count r q.place) then x else None)
        (ap (λ y. offered_by r (mirror a q.place) y (slice_get q.place.left i)) at
        ∙ offered_same change r a mates q.place.state q.place.kept (wide q can.spot) can.clear q.place.left o (slice_get q.place.left i) free spares
        ∙ sym (ap (λ y. offered_by r q.place y (slice_get q.place.left i)) at)) ∙ is;
    left = refl;
    plain = plain_stays a e (by (nat_lt i (move_count r q.place)) is);
  }
    where
      by : (b : Bool) → (if b then offered_by r q.place (slice_get r.offers i) (slice_get q.place.left i) else None) ≡ Some e → IsPlain a (Some e)
      by false h = absurd (none-some e h)
      by true h = subst (IsPlain a) h (subst (λ y. IsPlain a (offered_by r q.place y (slice_get q.place.left i))) (sym at)
          (offered_plain change r a mates q.place.state q.place.kept (wide q can.spot) can.clear q.place.left o (slice_get q.place.left i) free
          spares))

  -- a worker finishes what it runs, which has another rank there
  pub rank_there : (q : Spot) → CanMirror q → (w : ℕ) (id : Id) → slice_get q.place.state.running w ≡ Some (Some id)
      → (runner (mirrored a q.place.state) (rank_of (mirrored a q.place.state) id) ≡ Some w)
      × (rank_of (mirrored a q.place.state) id < worker_count r.program)
  rank_there q can w id there =
      let s = q.place.state in
      let opened : AreDistinct (s.waiting ++ run_ids s.running) =
      subst (λ (u : State). AreDistinct (u.waiting ++ run_ids u.running)) (sym can.spot.state) (reached r.program q.steps).opened.distinct in
      let regular = (mirror_going q can).regular in
      let long : length s.running ≡ worker_count r.program =
      ap (λ (u : State). length u.running) can.spot.state ∙ after_long r.program q.steps in
      let below = rank_below (mirrored a s) w id there in (
        rank_runs (mirrored a s) opened (λ k x at. regular.young.opened x (has_at s.waiting s.running k x at)) w id there,
        subst (λ m. rank_of (mirrored a s) id < m) long below,
      )

  pub finish_turns : (q : Spot) → CanMirror q → (k w : ℕ) (id : Id) → k < worker_count r.program → slice_get q.place.state.running w ≡ Some (Some id)
      → Turns q (suc (suc k)) (Finish w)
  finish_turns q can k w id below there =
      let rank = rank_of (mirrored a q.place.state) id in
      let found = rank_there q can w id there in
      let within : suc (suc rank) < worker_count r.program + 2 = (let l = found.1 in omega (arith, l)) in
      let will = will_of (worker_count r.program + 2) q.place.left (suc (suc rank)) can.wills within in
      let here = will_of (worker_count r.program + 2) q.place.left (suc (suc k)) can.wills (omega (arith, below)) in
      record {
        number = suc (suc rank);
        offered = at_will_is r take may (mirror a q.place) (suc (suc rank)) (offers.Step (Finish rank)) (take.finishes rank found.1) will
            ∙ finish_shown r take may (mirror a q.place) rank w found.0;
        left = will_same q.place.left (suc (suc rank)) will ∙ sym (will_same q.place.left (suc (suc k)) here);
        plain = refl;
      }

  pub finish_number : (q : Spot) (can : CanMirror q) (k w : ℕ) (id : Id) (below : k < worker_count r.program)
      (there : slice_get q.place.state.running w ≡ Some (Some id))
      → (finish_turns q can k w id below there).number ≡ suc (suc (rank_of (mirrored a q.place.state) id))
  unfolding finish_turns
  finish_number q can k w id below there = refl

  clear_free : (offer : Offer) → is_clear_of_takes offer ≡ true → IsFree offer
  clear_free each e = grind arith

  pub finish_event : (q : Spot) → CanMirror q → (k : ℕ) (e : Event) → k < worker_count r.program → event_at r q.place (suc (suc k)) ≡ Some e
      → (w : ℕ) × (runner q.place.state k ≡ Some w) × (e ≡ Finish w)
  finish_event q can k e below is = by (runner q.place.state k) refl (sym shows ∙ is) where
    shows : event_at r q.place (suc (suc k)) ≡ shown r take may q.place (offers.Step (Finish k))
    shows = grind arith

    by : (o : Option ℕ) → runner q.place.state k ≡ o → brief (Some take.counted) (finish_by o) ≡ Some e
        → (w : ℕ) × (runner q.place.state k ≡ Some w) × (e ≡ Finish w)
    by None run h = absurd (none-some e h)
    by (Some w) run h = (w, run, sym (same_Some (Finish w) e h))

  first_free : (b : Bool) → IsFree (first_offer b) × (offer_spares a (first_offer b) ≡ true)
  first_free b = grind arith

  offered_there : (q : Place) (i : ℕ) (e : Event) → event_at r q i ≡ Some e → (o : Offered) × (slice_get r.offers i ≡ Some o)
  offered_there q i e is = grind arith

  pub turns : (q : Spot) → CanMirror q → (i : ℕ) (e : Event) → event_at r q.place i ≡ Some e → Turns q i e
  turns q can zero e is =
      let free = first_free r.at_once in
      free_turns q can 0 (at_will (first_offer r.at_once)) e take.first free.0 free.1 is
  turns q can (suc zero) e is =
      let free = first_free (not r.at_once) in
      free_turns q can 1 (at_will (first_offer (not r.at_once))) e take.second free.0 free.1 is
  turns q can (suc (suc k)) e is = by (nat_lt k (worker_count r.program)) refl where
    by : (b : Bool) → nat_lt k (worker_count r.program) ≡ b → Turns q (suc (suc k)) e
    by true below =
        let few = ltb-true k (worker_count r.program) below in
        let it = finish_event q can k e few is in
        let run = rank_slot q.place.state k it.0 it.1 in
        subst (Turns q (suc (suc k))) (sym it.2) (finish_turns q can k it.0 run.0 few run.1)
    by false past =
        let o = offered_there q.place (suc (suc k)) e is in
        let other = take.others (suc (suc k)) o.0 (let l = not_less k (worker_count r.program) past in omega (arith, l)) o.1 in
        free_turns q can (suc (suc k)) o.0 e o.1 (clear_free o.0.offer other)
        (each (λ (x : Offered). offer_spares a x.offer) r.offers (suc (suc k)) o.0 mates.offers o.1) is

  -- ---- where it leads

  pub record LeadsTurned (q : Spot) (l : Led) (number : ℕ) : Type 0 where
    pub led_there : led r (mirror a q.place) number ≡ Some (mirror_led a r.program l)
    pub answers_there : answers r (mirror a q.place) (mirror_led a r.program l) ≡ answers r q.place l
    pub can_behind : is_few r.forget (length q.steps + 1) ≡ true → CanMirror (after_event q l)

  pub leads_turned : (q : Spot) → CanMirror q → (i : ℕ) (l : Led) → IsLed r q.place i l → led r q.place i ≡ Some l → (t : Turns q i l.event)
      → LeadsTurned q l t.number
  leads_turned q can i l led here t =
      let s = q.place.state in
      let event : led.event ≡ l.event = sym (ap (λ (x : Led). x.event) led.is) in
      let goes : next r.program (mirrored a s) l.event ≡ Moves (mirrored a led.state) (turned_line a r.program led.line) =
      ap (next r.program (mirrored a s)) (sym t.plain)
      ∙ next_mirrored a change r.program s l.event (are_alike r a mates s (wide q can.spot) can.clear)
      ∙ ap (mirrored_next r.program a) (ap (next r.program s) (sym event) ∙ led.goes) in
      let wide_behind = wide_after (q.steps ++ led.event ∷ []) led.state (state_behind r q led.event led.state led.line can.spot led.goes) in
      let within : is_within r.most (mirrored a led.state) ≡ true = within_same a r.program led.state wide_behind r.most mates.bounds ∙ led.within in
      let there = led_is r may.differ (mirror a q.place) t.number l.event (mirrored a led.state) (turned_line a r.program led.line) within t.offered
      goes in
      let kept = kept_same r a mates take.takes q.place.kept l.event led.state led.line in
      let place = ap (λ (x : Led). x.place) led.is in
      let line = ap (λ (x : Led). x.line) led.is in
      record {
        led_there = there ∙ (λ j. Some (record {
          event = l.event;
          place = record { state = mirrored a led.state; left = t.left j; kept = kept j };
          line = turned_line a r.program led.line;
        })) ∙ ap (λ (x : Led). Some (record { event = l.event; place = mirror a x.place; line = turned_line a r.program x.line }))
            (sym (led.is ∙ (λ j. record {
              event = event j;
              place = record {
                state = led.state;
                left = lessened q.place.left i;
                kept = kept_after r.recorded r.takes r.question q.place.kept (event j) led.state led.line;
              };
              line = led.line;
            })));
        answers_there = answers_same r a mates q.place l (subst (λ (x : Place). a + 2 ≤ length x.state.names) (sym place) wide_behind);
        can_behind = λ few. record {
          spot = leads_spot r q l can.spot (led_leads r q.place i l here) few;
          clear = subst (λ (x : Place). main_spares a r.program x.state.place ≡ true) (sym place)
              (spares_further a r.program s.place led.state.place
              (subst (StaysPast (line_of s.place)) led.goes (next_past r.program (line_of s.place) s led.event (omega arith))) can.clear);
          wills = grind (arith, worker_count, wills_stay);
        };
      }

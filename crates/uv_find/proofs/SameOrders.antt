-- The orders of a script, and those of the script in which each request asks for the same work: they go by the same events.
use Rattle.uv_find.proofs.Names.{if◌then◌else◌, ◌≡◌, ◌∙◌, ℕ, ◌+◌, ◌==◌, ◌&&◌, not, max, Bool, true, List, [], ◌∷◌, length, nat_lt, is_none, slice_get, refl, ap, ap₂, sym, subst, Option, Some, None, inl, inr, arith, map, option_map, list_all, length-map, slice_get-map, Event, Finish, Send, Id, Seen, Site, held, Program, Callbacks, arena_size, op_at, op_name, CallbackLine, MainOp, Op, Content, STEPS, Next, Moves, Refuses, State, fresh, named, answers_code, held_mapped, all_end, call_end, lines_end, script_end, Asked, Offer, Offered, Question, Takes, Kept, Left, LeadsOn, Course, IsAnswer, NeverAnswered, LONGEST, are_aside, are_small_offers, are_small_takes, is_small_op, is_declared, forget_of, may_forget, most_end, takes_end, question_end, IsDeepest, are_clear_of_takes, asks_late, is_empty, is_no_cancel, may_take_at_once, due_in, due_else, due_under, kept_due, owed_after, is_poll, mates_in, each_op, of_callbacks, of_lines, of_main, Rules, Place, Choice, Led, beginning, closes, event_of, is_blocked, is_free, is_within, led, led_by, may_take, offered_by, brief, placed, reached, spending, is_made, aim, step_of, taken, timed, is_run, answers, answers_line, begun, has_ended, none_leads, place_answers, rank_in, is_of_rank, ranked, Spot, rules_of, first_spot, holds_back, is_few, same_op, same_line, same_main, same_callbacks, same_work, next_map}
use Rattle.uv_ids.specs.declared.seen.Site.TheVariants as site
use Rattle.uv_model.specs.Next.{next}
use Rattle.uv_model.specs.declared.place.Place as loop
use Rattle.uv_tasks.specs.Tasks.{same_content, same_state, same_seen}
use Rattle.uv_tasks.proofs.Steps.{lines_same}
use Rattle.uv_asking.specs.declared.asking.Offer.TheVariants as offers
use Rattle.uv_asking.specs.declared.asking.Question.TheVariants as asks
use Rattle.uv_find.specs.Orders.{choice_at}
use Rattle.uv_find.specs.Questions.{name_in}
use Rattle.uv_find.specs.SameWork.{asking, asking_alike}
use Rattle.uv_find.proofs.Led.{choice_is}

abbrev same_place : Place → Place
same_place q = record q { state = same_state q.state }

abbrev told_steps : Spot → List Event → ℕ
told_steps s es = length s.steps + length es + 1

abbrev same_led : Led → Led
same_led l = record { event = l.event; place = same_place l.place; line = option_map same_seen l.line }

-- ---- what is held

held_same : (s : State) (id : Id) → held (same_state s).arena.slots id ≡ option_map same_content (held s.arena.slots id)
held_same s id = held_mapped same_content s.arena.slots id

closes_same : (s : State) (o : Option Id) → closes (same_state s) o ≡ closes s o
closes_same s o = grind (arith, held_same)

due_same : (q : Question) (s : State) (due : ℕ) → kept_due q (same_state s) due ≡ kept_due q s due
due_same (asks.Late name ms) s due = under (named s name).id where
  by : (c : Option Content) → due_in (option_map same_content c) due (due_else s due) s.clock ≡ due_in c due (due_else s due) s.clock
  by c = grind arith

  under : (o : Option Id) → due_under (same_state s) o due ≡ due_under s o due
  under None = refl
  under (Some id) = ap (λ c. due_in c due (due_else s due) s.clock) (held_same s id) ∙ by (held s.arena.slots id)
due_same q s due = refl

-- ---- ranks

of_rank_same : (s : State) (rank : ℕ) (x : Option Id) → is_of_rank (same_state s) rank x ≡ is_of_rank s rank x
of_rank_same s rank None = refl
of_rank_same s rank (Some id) = ap (λ (key : Id → Id). rank_in (map (option_map key) s.running) (key id) == rank) (grind (arith, held_same))

ranked_same : (f : Option ℕ) (s : State) (o : Option Event) → ranked f (same_state s) o ≡ ranked f s o
ranked_same (Some n) s (Some (Finish rank)) = grind (arith, of_rank_same)
ranked_same f s o = assumption

-- ---- what is kept, and what a line answers

line_owes : (takes : List Takes) (owed : ℕ) (s : State) (line : Option Seen) → owed_after takes owed (same_state s) (option_map same_seen line)
    ≡ owed_after takes owed s line
line_owes takes owed s line = grind arith

poll_same : (line : Option Seen) → is_poll (option_map same_seen line) ≡ is_poll line
poll_same line = grind arith

begun_same : (l : Seen) → begun (same_seen l) ≡ begun l
begun_same l = grind arith

code_same : (code : _) (l : Seen) → answers_code code (same_seen l) ≡ answers_code code l
code_same code l = grind arith

main_same : (p : Program) (line : ℕ) → slice_get (same_work p).main line ≡ option_map same_main (slice_get p.main line)
main_same p line = slice_get-map same_main p.main line

name_same : (o : Op) → op_name (same_op o) ≡ op_name o
name_same o = grind arith

site_same : (p : Program) (at : Site) → name_in (op_at (same_work p) at) ≡ name_in (op_at p at)
site_same p (site.Main line) = grind (arith, main_same, name_same)
site_same p (site.In kind v line) = grind (arith, lines_same, slice_get-map, name_same)

line_same : (p : Program) (q : Question) (due : ℕ) (s : State) (l : Seen)
    → answers_line (same_work p) q due (same_state s) (same_seen l) ≡ answers_line p q due s l
line_same p q due s l = grind (arith, begun_same, code_same, site_same)

-- ---- one event, and where it leads

-- a step of the script in which each request asks for the same work goes as it does
abbrev pub StepsStand : Type 0
StepsStand = (p : Program) (s : State) (e : Event) → next (same_work p) (same_state s) e ≡ next_map same_state same_seen (next p s e)

-- the rules of the script in which each request asks for the same work
abbrev rules_with : Rules → List Bool → Rules
rules_with r mates = record r { program = same_work r.program; mates = mates }

module _ (steps : StepsStand) (r : Rules) (mates : List Bool) (differ : r.differ ≡ None) where
  abbrev same_rules : Rules
  same_rules = rules_with r mates

  blocked_same : (s : State) → is_blocked (same_work r.program) (same_state s) ≡ is_blocked r.program s
  blocked_same s = grind arith

  free_same : (s : State) (k : Kept) (e : Event) → is_free (same_state s) k e ≡ is_free s k e
  free_same s k e = grind (arith, not, closes_same, named)

  step_same : (s : State) (k : Kept) (e : Event) → step_of (same_state s) k e ≡ step_of s k e
  step_same s k e = ap (λ b. if is_made s (aim e) && b then Some (spending k e) else None) (free_same s k e)

  event_same : (s : State) (k : Kept) (offer : Offer) → event_of (same_work r.program) (same_state s) k offer ≡ event_of r.program s k offer
  event_same s k (offers.SendDuring v job) = ap (λ o. if is_run s (named s job).id then o else None) (step_same s k (Send v))
  event_same s k each = grind (arith, step_same, named, same_work, blocked_same)

  offered_same : (q : Place) (o : Option Offered) (x : Option Left) → offered_by same_rules (same_place q) o x ≡ offered_by r q o x
  offered_same q None x = refl
  offered_same q (Some o) None = refl
  offered_same q (Some o) (Some x) =
      ap (λ e. brief r.forget (ranked r.forget (same_state q.state) (if may_take x then timed r.clock q.state.clock e else None)))
      (event_same q.state q.kept o.offer)
      ∙ ap (brief r.forget)
      (ranked_same r.forget q.state (if may_take x then timed r.clock q.state.clock (event_of r.program q.state q.kept o.offer) else None))

  choice_same : (q : Place) (number : ℕ) → choice_at same_rules (same_place q) number ≡ choice_at r q number
  choice_same q number = simp (choice_is, nat_lt, offered_same, slice_get)

  taken_same : (c : Choice) (t : State) (line : Option Seen)
      → taken same_rules c (same_state t) (option_map same_seen line) ≡ same_place (taken r c t line)
  taken_same c t line = grind (arith, due_same, line_owes, option_map, poll_same)

  led_same : (q : Place) (number : ℕ) → led same_rules (same_place q) number ≡ option_map same_led (led r q number)
  led_same q number = ap (led_by same_rules (same_place q)) (choice_same q number) ∙ by (choice_at r q number) where
    within : (c : Choice) (t : State) (line : Option Seen) (b : Bool)
        → placed same_rules c (if◌then◌else◌ {A = Option (State × Option Seen)} b (Some (same_state t, option_map same_seen line)) None)
        ≡ option_map same_led (placed r c (if◌then◌else◌ {A = Option (State × Option Seen)} b (Some (t, line)) None))
    within c t line b = grind (arith, taken_same, option_map)

    goes : (c : Choice) (x : Next) → placed same_rules c (reached r.most (next_map same_state same_seen x))
        ≡ option_map same_led (placed r c (reached r.most x))
    goes c (Moves t line) = within c t line (is_within r.most t)
    goes c (Refuses why) = refl

    by : (c : Option Choice) → led_by same_rules (same_place q) c ≡ option_map same_led (led_by r q c)
    by None = refl
    by (Some c) = ap (λ x. placed same_rules c (reached r.most x)) (steps r.program q.state c.event) ∙ goes c (next r.program q.state c.event)

  -- ---- what answers

  none_same : (q : Place) (count : ℕ) → none_leads same_rules (same_place q) count ≡ none_leads r q count
  none_same q count = grind (arith, ap₂, is_none, led_same, option_map)

  ended_same : (place : loop.Place) → has_ended (same_work r.program) place ≡ has_ended r.program place
  ended_same place = grind (arith, is_none, main_same, slice_get, option_map, same_main)

  place_same : (q : Place) (ask : Question) → place_answers same_rules (same_place q) ask ≡ place_answers r q ask
  place_same q ask = grind (arith, ended_same, ap₂, blocked_same, none_same)

  answers_same : (q : Place) (l : Led) → answers same_rules (same_place q) (same_led l) ≡ answers r q l
  answers_same q l = grind (arith, ap₂, place_same, same_work, option_map, line_same)

  -- ---- there

  leads_there : (q : Place) (l : Led) → LeadsOn r q l → LeadsOn same_rules (same_place q) (same_led l)
  leads_there q l on = grind (arith, choice_same, taken, taken_same)

  course_there : (q t : Place) (es : List Event) → Course r q es t → Course same_rules (same_place q) es (same_place t)
  course_there q t [] same = ap same_place same
  course_there q t (e ∷ es) (l, event, on, rest) = (same_led l, event, leads_there q l on, course_there l.place t es rest)

  never_here : holds_back same_rules ≡ holds_back r → (s : Spot)
      → NeverAnswered same_rules (record { place = same_place s.place; steps = s.steps }) → NeverAnswered r s
  never_here held s (here, behind) = (
    sym (place_same s.place r.question) ∙ here,
    λ es l told answer. behind es (same_led l)
        (ap (λ b. is_few r.forget (if b then told_steps s es + STEPS + 1 else told_steps s es)) held ∙ told)
        (search (course_there, leads_there, answers_same)),
  )

  -- ---- and back

  record Back (q : Place) (m : Led) : Type 0 where
    led_here : Led
    is : m ≡ same_led led_here
    leads : LeadsOn r q led_here

  leads_back : (q : Place) (m : Led) → LeadsOn same_rules (same_place q) m → Back q m
  leads_back q m on = by (next r.program q.state m.event) refl (sym (steps r.program q.state m.event) ∙ on.accepted) where
    by : (x : Next) → next r.program q.state m.event ≡ x → next_map same_state same_seen x ≡ Moves m.place.state m.line → Back q m
    by (Refuses why) goes e = absurd (let f : ⊥ = cc in f)
    by (Moves t line) goes e =
        let state : same_state t ≡ m.place.state = cc in
        let says : option_map same_seen line ≡ m.line = cc in
        let place : m.place ≡ same_place (taken r on.choice t line) =
        on.taken ∙ ap₂ (taken same_rules on.choice) (sym state) (sym says) ∙ taken_same on.choice t line in
        record {
          led_here = record { event = m.event; place = taken r on.choice t line; line = line };
          is = λ i. record { event = m.event; place = place i; line = sym says i };
          leads = record {
            number = on.number;
            choice = on.choice;
            offered = sym (choice_same q on.number) ∙ on.offered;
            event = on.event;
            accepted = goes;
            within = subst (λ u. is_within r.most u ≡ true) (sym state) on.within;
            taken = refl;
          };
        }

  course_back : (q : Place) (es : List Event) (t : Place) → Course same_rules (same_place q) es t
      → (u : Place) × (t ≡ same_place u) × Course r q es u
  course_back q [] t same = (q, same, refl)
  course_back q (e ∷ es) t (m, event, on, rest) =
      let back = leads_back q m on in
      let more = course_back back.led_here.place es t
      (subst (λ (l : Led). Course same_rules l.place es t) back.is rest) in
      (more.0, more.1, (back.led_here, sym (ap (λ (l : Led). l.event) back.is) ∙ event, back.leads, more.2))

  answer_back : (q : Place) (es : List Event) (t : Place) → IsAnswer same_rules (same_place q) es t → (u : Place) × IsAnswer r q es u
  answer_back q es t (inl (before, m, are, answer, place)) =
      let to = course_back q before answer.place answer.course in
      let back = leads_back to.0 m (subst (λ x. LeadsOn same_rules x m) to.1 answer.leads) in
      let l = back.led_here in (
        l.place,
        inl (grind (arith, answers_same, ap₂)),
      )
  answer_back q es t (inr (none, here, says)) = (q, inr (none, refl, sym (place_same q r.question) ∙ says))

  deepest_back : (q : Place) → IsDeepest same_rules (same_place q) → IsDeepest r q
  deepest_back q (es, t, course, deep) = let to = course_back q es t course in (es, to.0, to.2, deep)

-- ---- what is searched

each_same : (test : Op → Bool) → ((o : Op) → test (same_op o) ≡ test o) → (p : Program) → each_op test (same_work p) ≡ each_op test p
each_same test same p = ap₂ (λ x y. x && y) (in_main p.main) (in_callbacks p.callbacks) where
  of_one : (o : MainOp) → of_main test (same_main o) ≡ of_main test o
  of_one o = grind arith

  in_main : (ops : List MainOp) → list_all (of_main test) (map same_main ops) ≡ list_all (of_main test) ops
  in_main [] = refl
  in_main (o ∷ ops) = ap₂ (λ x y. x && y) (of_one o) (in_main ops)

  in_lines : (ls : List CallbackLine) → of_lines test (map same_line ls) ≡ of_lines test ls
  in_lines [] = refl
  in_lines (l ∷ ls) = ap₂ (λ x y. x && y) (same l.op) (in_lines ls)

  in_callbacks : (cs : List Callbacks) → list_all (of_callbacks test) (map same_callbacks cs) ≡ list_all (of_callbacks test) cs
  in_callbacks [] = refl
  in_callbacks (c ∷ cs) = ap₂ (λ x y. x && y) (λ i. in_lines c.handle i && in_lines c.after i && in_lines c.close i) (in_callbacks cs)

end_same : (p : Program) → script_end (same_work p) ≡ script_end p
end_same p = by p.callbacks where
  lines : (ls : List CallbackLine) → lines_end (map same_line ls) ≡ lines_end ls
  lines [] = refl
  lines (l ∷ ls) = ap (max (call_end l.call)) (lines ls)

  by : (cs : List Callbacks) → all_end (map same_callbacks cs) ≡ all_end cs
  by [] = refl
  by (c ∷ cs) = ap₂ max (λ i. max (lines c.handle i) (max (lines c.after i) (lines c.close i))) (by cs)

-- all but the script and who is alike stays
rules_same : (p : Program) (a : Asked) → rules_of (same_work p) a
    ≡ record (rules_of p a) { program = same_work p; mates = mates_in (same_work p) a }
rules_same p a =
    let small = each_same is_small_op (λ o. grind arith) p in
    let names = ap (λ n. each_op (λ (o : Op). is_declared n (op_name o)) (same_work p)) (length-map p.callbacks same_callbacks)
    ∙ each_same (λ (o : Op). is_declared (length p.callbacks) (op_name o)) (λ o. ap (is_declared (length p.callbacks)) (name_same o)) p in
    let cancels = each_same is_no_cancel (λ o. grind arith) p in
    let forgets : may_forget (same_work p) a ≡ may_forget p a =
    ap₂ (λ x y. not a.full && is_none a.clock && is_none a.differ && nat_lt LONGEST (arena_size p).last_generation && x && are_small_offers a.offers
    && are_aside a.offers && are_small_takes a.takes && y) small names in
    let forget : forget_of (same_work p) a ≡ forget_of p a =
    ap₂ (λ b n. if b then Some (max 1 (max n (max (most_end a.most) (max (takes_end a.takes) (question_end a.question))))) else None)
    forgets (end_same p) in
    let once : may_take_at_once (same_work p) a ≡ may_take_at_once p a =
    ap₂ (λ x y. x && is_empty a.takes && not (asks_late a.question) && are_clear_of_takes a.offers && y) forgets cancels in
    cc

abbrev pub BeginsSame : Type 0
BeginsSame = (p : Program) → fresh (same_work p) ≡ same_state (fresh p)

module _ (steps : StepsStand) (begins : BeginsSame) (p : Program) (a : Asked) (q : Question) (differ : a.differ ≡ None) where
  abbrev mates : List Bool
  mates = mates_in (same_work p) a

  rules_are : asking (same_work p) a q ≡ rules_with (asking p a q) mates
  rules_are = ap (λ (r : Rules). record r { question = q }) (rules_same p a)

  begins_there : beginning (rules_with (asking p a q) mates) ≡ same_place (beginning (asking p a q))
  begins_there = ap (λ s. record (beginning (asking p a q)) { state = s }) (begins p)

  pub answers_stand : (es : List Event) (t : Place) → IsAnswer (asking (same_work p) a q) (beginning (asking (same_work p) a q)) es t
      → (u : Place) × IsAnswer (asking p a q) (beginning (asking p a q)) es u
  answers_stand es t answer = answer_back steps (asking p a q) mates differ (beginning (asking p a q)) es t
      (subst (λ x. IsAnswer (rules_with (asking p a q) mates) x es t) begins_there (subst (λ r. IsAnswer r (beginning r) es t) rules_are answer))

  pub never_stands : NeverAnswered (asking (same_work p) a q) (first_spot (asking (same_work p) a q))
      → NeverAnswered (asking_alike p a q) (first_spot (asking_alike p a q))
  never_stands never = never_here steps (asking_alike p a q) mates differ refl (first_spot (asking_alike p a q))
      (subst (λ x. NeverAnswered (rules_with (asking_alike p a q) mates) (record { place = x; steps = [] })) begins_there
      (subst (λ r. NeverAnswered r (first_spot r)) rules_are never))

  pub depth_stands : IsDeepest (asking (same_work p) a q) (beginning (asking (same_work p) a q))
      → IsDeepest (asking p a q) (beginning (asking p a q))
  depth_stands deep = deepest_back steps (asking p a q) mates differ (beginning (asking p a q))
      (subst (λ x. IsDeepest (rules_with (asking p a q) mates) x) begins_there (subst (λ r. IsDeepest r (beginning r)) rules_are deep))

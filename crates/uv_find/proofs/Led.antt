-- Where a move leads: on by an event that is brief, to a spot.
use Rattle.uv_find.proofs.Names.{◌≡◌, ℕ, zero, suc, ◌+◌, ◌<◌, Bool, true, List, [], ◌∷◌, ◌++◌, length, nat_lt, refl, sym, ap, subst, ◌∙◌, Option, Some, None, if◌then◌else◌, slice_get, length-append, arith, list_all, and_parts, same_Some, none-some, Event, Seen, State, Next, Moves, after-push, Offered, Left, Kept, Rules, Place, Choice, Led, led, led_by, placed, choice_by, chosen, lessened, offered_by, offered_here, is_brief, brief, move_count, reached, is_within, ranked, answers, LeadsOn, Spot, spot_of, next_spot, MayForget, AreBrief, is_few, IsSpot}
use Rattle.uv_model.specs.Next.{next}
use Rattle.uv_model.specs.After.{after}
use Rattle.uv_find.specs.Orders.{choice_at}

module _ (r : Rules) (p : Place) (number : ℕ) (l : Led) where
  by_within : (c : Choice) (s : State) (line : Option Seen) (b : Bool) → choice_at r p number ≡ Some c → next r.program p.state c.event ≡ Moves s line
      → is_within r.most s ≡ b
      → placed r c (if◌then◌else◌ {A = Option (State × Option Seen)} b (Some (s, line)) None) ≡ Some l → LeadsOn r p l
  by_within c s line b offered accepted within is = grind arith

  by_next : (c : Choice) (x : Next) → choice_at r p number ≡ Some c → next r.program p.state c.event ≡ x → placed r c (reached r.most x) ≡ Some l
      → LeadsOn r p l
  by_next c x offered accepted is = grind (arith, by_within)

  by_choice : (c : Option Choice) → choice_at r p number ≡ c → led_by r p c ≡ Some l → LeadsOn r p l
  by_choice c offered is = grind (arith, by_next)

  -- a choice that leads on is an event that does
  pub led_leads : led r p number ≡ Some l → LeadsOn r p l
  led_leads is = by_choice (choice_at r p number) refl is

-- ---- the event of an offer

-- if it is one
abbrev pub event_at : Rules → Place → ℕ → Option Event
event_at r p number =
    if nat_lt number (move_count r p) then offered_by r p (slice_get r.offers number) (slice_get p.left number) else None

pub choice_is : (r : Rules) → r.differ ≡ None → (p : Place) (number : ℕ)
    → choice_at r p number ≡ chosen (lessened p.left number) p.kept (event_at r p number)
unfolding choice_at
choice_is r none p number = grind arith

-- ---- lists

-- what holds of each holds of this one
pub each : {A : Type 0} (f : A → Bool) (xs : List A) (k : ℕ) (x : A) → list_all f xs ≡ true → slice_get xs k ≡ Some x → f x ≡ true
each f [] k x all e = absurd (none-some x e)
each f (y ∷ ys) zero x all e = subst (λ z. f z ≡ true) (same_Some y x e) (and_parts (f y) (list_all f ys) all).0
each f (y ∷ ys) (suc k) x all e = each f ys k x (and_parts (f y) (list_all f ys) all).1 e

pub length_more : (es : List Event) (e : Event) → length (es ++ e ∷ []) ≡ length es + 1
length_more es e = omega (arith, length-append {A = Event})

-- ---- what is chosen is brief

brief_is : (forget : Option ℕ) (o : Option Event) (e : Event) → brief forget o ≡ Some e → is_brief forget e ≡ true
brief_is forget o e h = grind arith

pub offered_brief : (r : Rules) (p : Place) (offered : Option Offered) (x : Option Left) (e : Event) → offered_by r p offered x ≡ Some e →
    is_brief r.forget e ≡ true
offered_brief r p None x e h = absurd cc
offered_brief r p (Some o) None e h = absurd cc
offered_brief r p (Some o) (Some x) e h = brief_is r.forget (ranked r.forget p.state (offered_here r.program r.clock p.state p.kept o.offer x)) e h

chosen_is : (xs : List Left) (kept : Kept) (o : Option Event) (c : Choice) → chosen xs kept o ≡ Some c → o ≡ Some c.event
chosen_is xs kept o c h = grind arith

pub choice_brief : (r : Rules) (p : Place) (number : ℕ) (c : Choice) → MayForget r → choice_at r p number ≡ Some c → is_brief r.forget c.event ≡ true
unfolding choice_at
choice_brief r p number c may h = by r.forget refl where
  within : (b : Bool) → (if b then choice_by r p number r.differ else None) ≡ Some c → choice_by r p number r.differ ≡ Some c
  within b e = grind arith

  by : (o : Option ℕ) → r.forget ≡ o → is_brief r.forget c.event ≡ true
  by None none = ap (λ o. is_brief o c.event) none
  by (Some n) some =
      let differ = (may n some).differ in
      let offer = ap (choice_by r p number) (sym differ) ∙ within (nat_lt number (move_count r p)) h in
      search (offered_brief, slice_get, chosen_is)

-- ---- a spot, with an event more that leads on

pub brief_more : (forget : Option ℕ) (es : List Event) (e : Event) → AreBrief forget es → is_brief forget e ≡ true → AreBrief forget (es ++ e ∷ [])
brief_more forget [] e h k = (k, tt)
brief_more forget (x ∷ xs) e h k = (h.0, brief_more forget xs e h.1 k)

pub state_behind : (r : Rules) (s : Spot) (e : Event) (t : State) (line : Option Seen) → IsSpot r s → next r.program s.place.state e ≡ Moves t line →
    t ≡ after r.program (s.steps ++ e ∷ [])
state_behind r s e t line is goes = grind (arith, after-push)

pub leads_spot : (r : Rules) (s : Spot) (l : Led) → IsSpot r s → LeadsOn r s.place l → is_few r.forget (length s.steps + 1) ≡ true
    → IsSpot r (record { place = l.place; steps = s.steps ++ l.event ∷ [] })
leads_spot r s l is on few = record {
  state = state_behind r s l.event l.place.state l.line is on.accepted;
  forgets = is.forgets;
  brief = grind (arith, brief_more, choice_brief);
  few = ap (is_few r.forget) (length_more s.steps l.event) ∙ few;
}

-- what a move leads to, and that it may
pub spot_led : (r : Rules) (s : Spot) (l : Led) (t : Spot) (b : Bool) → spot_of r s (Some l) ≡ Some (t, b)
    → (t ≡ record { place = l.place; steps = s.steps ++ l.event ∷ [] }) × (b ≡ answers r s.place l) × (is_few r.forget (length s.steps + 1) ≡ true)
spot_led r s l t b e = grind arith

pub spots_lead : (r : Rules) (s : Spot) (i : ℕ) (t : Spot) (b : Bool) → IsSpot r s → i < move_count r s.place
    → next_spot r s i ≡ Some (t, b) → IsSpot r t
spots_lead r s i t b is below goes = by (led r s.place i) refl goes
  where
    by : (o : Option Led) → led r s.place i ≡ o → spot_of r s o ≡ Some (t, b) → IsSpot r t
    by None e h = absurd (let f : ⊥ = cc in f)
    by (Some l) e h =
        let k = spot_led r s l t b h in
        subst (IsSpot r) (sym k.0) (leads_spot r s l is (led_leads r s.place i l e) k.2)

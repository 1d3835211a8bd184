-- Each move of an order near a recording is an offer of every order.
use Rattle.uv_find.proofs.Names.{◌≡◌, ℕ, ◌-◌, ◌==◌, ◌&&◌, not, Bool, true, false, List, length, nat_le, nat_lt, slice_get, refl, sym, ap, ap₂, subst, ◌∙◌, Option, Some, None, inl, inr, if◌then◌else◌, option_map, same_Some, none-some, Event, State, named, Offer, Step, SendDuring, Wait, Offered, Recorded, Kept, Left, owes, with_spare, Rules, Place, Choice, aim, is_made, is_seen, is_free, is_clear, spending, step_of, is_run, deadline_at, wait_until, event_of, keeps_clock, timed, offered_here, offered_by, brief, chosen, lessened, move_count, waited_for, came, comes_by, comes, waiting, waits_or_goes, with_kept, going, past, go_on_by, go_on, is_due, come_by, come_in_place, in_place_of, in_place, spent, free_of, elsewhere_by, elsewhere_with, elsewhere_of, elsewhere, recorded_at, choice_by, IsOffered, ranked}
use Rattle.uv_ids.specs.declared.event.Event.TheVariants as event
use Rattle.uv_find.specs.declared.left.Left.TheVariants as left
use Rattle.uv_find.specs.Orders.{choice_at}
use Rattle.uv_find.specs.Within.{every_order, MayTake, offer_by, wait_by, offer_of, IsNext, Brings, IsCommon, CameFromOutside, NearIsWithin}
use Rattle.uv_find.proofs.Led.{choice_is}
use Rattle.uv_find.proofs.Meeting.{get_within, loop_timed}

-- what is within the clock's bound was there
timed_was : (most : Option ℕ) (clock : ℕ) (o : Option Event) (e : Event) → timed most clock o ≡ Some e → o ≡ Some e
timed_was most clock None e h = absurd (none-some e h)
timed_was most clock (Some f) e h = by (keeps_clock most clock f) h where
  by : (b : Bool) → (if b then Some f else None) ≡ Some e → Some f ≡ Some e
  by true g = g
  by false g = absurd (none-some e g)

free_was : (s : State) (k : Kept) (o : Option Event) (e : Event) → free_of s k o ≡ Some e → o ≡ Some e
free_was s k None e h = absurd (none-some e h)
free_was s k (Some f) e h = by (is_free s k f) h where
  by : (b : Bool) → (if b then Some f else None) ≡ Some e → Some f ≡ Some e
  by true g = g
  by false g = absurd (none-some e g)

module _ (r : Rules) (offers : List Offered) (all : Place) (s : State) (state : all.state ≡ s) where
  abbrev every : Rules
  every = every_order r offers

  module _ (k : Kept) (owed : all.kept.owed ≡ k.owed) where
    free_same : (e : Event) → is_free all.state all.kept e ≡ is_free s k e
    free_same (event.Io v) = ap (λ o. not (nat_lt 0 o)) owed
    free_same (event.Tick ms) = ap (λ o. not (nat_lt 0 o)) owed
    free_same (event.Send v) = ap (λ u. is_seen u v) state
    free_same event.Loop = refl
    free_same (event.Take worker) = refl
    free_same (event.Finish worker) = refl
    free_same (event.Cancel v) = refl

    spending_same : (e : Event) → spending all.kept e ≡ spending k e
    spending_same each = search nat_lt

    step_same : (e : Event) → step_of all.state all.kept e ≡ step_of s k e
    step_same e =
        let free = free_same e in
        let spends = spending_same e in
        λ i. if is_made (state i) (aim e) && free i then Some (spends i) else None

    event_same : (offer : Offer) → event_of r.program all.state all.kept offer ≡ event_of r.program s k offer
    event_same (SendDuring v job) =
        let step = step_same (event.Send v) in
        λ i. if is_run (state i) (named (state i) job).id then step i else None
    event_same each = search (step_same, named)

    -- an offer that may be taken, and is an event here, is a move
    taken : (offer : Offer) (e : Event) → MayTake offers all.left offer → timed r.clock s.clock (event_of r.program s k offer) ≡ Some e
        → IsOffered every all e
    taken offer e may comes =
        let same = event_same offer in
        let there : timed r.clock all.state.clock (event_of r.program all.state all.kept offer) ≡ Some e =
        (λ i. timed r.clock (state i).clock (same i)) ∙ comes in
        let within : nat_lt may.number (move_count every all) ≡ true = get_within offers may.number may.offered may.here in
        let here : offered_here r.program r.clock all.state all.kept may.offered.offer may.rest ≡ Some e =
        ap₂ (λ b o. if b then timed r.clock all.state.clock (event_of r.program all.state all.kept o) else None) may.may may.is ∙ there in
        let xs = lessened all.left may.number in
        record {
          number = may.number;
          choice = record { event = e; left = xs; kept = all.kept };
          offered = choice_is every refl all may.number
              ∙ ap (λ b. chosen xs all.kept (if b then offered_by every all (slice_get offers may.number) (slice_get all.left may.number) else None))
              within
              ∙ ap₂ (λ o x. chosen xs all.kept (offered_by every all o x)) may.here may.there
              ∙ ap (λ o. chosen xs all.kept (brief None (ranked None all.state o))) here;
          event = refl;
        }

    -- ---- how the loop goes on

    abbrev loop_by : Bool → Option Event
    loop_by b = timed r.clock s.clock (Some (if b then event.Tick k.owed else event.Loop))

    kept_event : (o : Option Event) (g : Event × Kept) → with_kept k o ≡ Some g → o ≡ Some g.0
    kept_event None g h = absurd (none-some g h)
    kept_event (Some e) g h = ap (λ (x : Event × Kept). Some x.0) (same_Some (e, k) g h)

    waits_so : (w : Bool) (o : Option Event) (e : Event) → r.waits ≡ w → (if w then o else None) ≡ Some e → (r.waits ≡ true) × (o ≡ Some e)
    waits_so true o e is h = (is, h)
    waits_so false o e is h = absurd (none-some e h)

    going_offered : MayTake offers all.left (Step event.Loop) → (r.waits ≡ true → MayTake offers all.left Wait) → (g : Event × Kept)
        → going r s k ≡ Some g → IsOffered every all g.0
    going_offered loop wait g h = by (owes k) refl h where
      went : (o : Option Event) → waiting r s ≡ o → owes k ≡ false → waits_or_goes r.recorded k o ≡ g → IsOffered every all g.0
      went None is idle same =
          subst (λ (x : Event × Kept). IsOffered every all x.0) same
          (taken (Step event.Loop) event.Loop loop (ap loop_by idle ∙ loop_timed r.clock s.clock))
      went (Some e) is idle same =
          let said = waits_so r.waits (timed r.clock s.clock (wait_until r.program s (deadline_at s.place))) e refl is in
          subst (λ (x : Event × Kept). IsOffered every all x.0) same (taken Wait e (wait said.0) said.1)

      by : (b : Bool) → owes k ≡ b
          → (if b then with_kept k (timed r.clock s.clock (Some (event.Tick k.owed))) else Some (waits_or_goes r.recorded k (waiting r s))) ≡ Some g
          → IsOffered every all g.0
      by true is e = taken (Step event.Loop) g.0 loop (ap loop_by is ∙ kept_event (timed r.clock s.clock (Some (event.Tick k.owed))) g e)
      by false is e = went (waiting r s) refl is (same_Some (waits_or_goes r.recorded k (waiting r s)) g e)

    -- ---- what came in the recording

    plain : (x : Event) → (x ≡ event.Loop → ⊥) → is_made s (aim x) ≡ true → is_clear k x ≡ true → IsCommon s x
        → event_of r.program s k (offer_by x) ≡ Some x
    plain (event.Cancel v) other made clear common = ap (λ b. if b && true then Some (event.Cancel v) else None) made
    plain (event.Send v) other made clear common = ap₂ (λ b c. if b && c then Some (event.Send v) else None) made common
    plain (event.Io v) other made clear common = ap₂ (λ b c. if b && c then Some (event.Io v) else None) made clear
    plain (event.Tick ms) other made clear common = ap (λ c. if c then Some (event.Tick ms) else None) clear
    plain each other made clear common = search ap₂

    waits : (x e : Event) → (x ≡ event.Loop → ⊥) → is_made s (aim x) ≡ true → is_clear k x ≡ true → IsCommon s e
        → waited_for r.program s x ≡ Some e → event_of r.program s k (wait_by x) ≡ Some e
    waits (event.Cancel v) e other made clear common h = ap (λ b. if b && true then Some (event.Cancel v) else None) made ∙ h
    waits (event.Send v) e other made clear common h =
        let seen = subst (IsCommon s) (sym (same_Some (event.Send v) e h)) common in
        ap₂ (λ b c. if b && c then Some (event.Send v) else None) made seen ∙ h
    waits (event.Io v) e other made clear common h = ap₂ (λ b c. if b && c then Some (event.Io v) else None) made clear ∙ h
    waits each e other made clear common h = search (same_Some, ap₂)

    abbrev offered_as : Bool → Event → Offer
    offered_as w x = if w then wait_by x else offer_by x

    came_as : (w : Bool) (x e : Event) → (x ≡ event.Loop → ⊥) → is_made s (aim x) ≡ true → is_clear k x ≡ true → IsCommon s e
        → (if w then waited_for r.program s x else Some x) ≡ Some e → event_of r.program s k (offered_as w x) ≡ Some e
    came_as true x e other made clear common h = waits x e other made clear common h
    came_as false x e other made clear common h =
        plain x other made clear (subst (IsCommon s) (sym (same_Some x e h)) common) ∙ h

    brought : (x : Recorded) (e : Event) → (x.event ≡ event.Loop → ⊥) → IsCommon s e → comes_by r.program s k (Some x) ≡ Some e
        → event_of r.program s k (offer_of x) ≡ Some e
    brought x e other common h = by (is_made s (aim x.event)) (is_clear k x.event) refl refl h where
      by : (b c : Bool) → is_made s (aim x.event) ≡ b → is_clear k x.event ≡ c → (if b && c then came r.program s x else None) ≡ Some e
          → event_of r.program s k (offer_of x) ≡ Some e
      by true true made clear g = came_as x.waits x.event e other made clear common g
      by true false made clear g = absurd (none-some e g)
      by false c made clear g = absurd (none-some e g)

    came_offered : (e : Event) → ((x : Recorded) → MayTake offers all.left (offer_of x) → (x.event ≡ event.Loop → ⊥) → (o : Option Event)
        → comes_by r.program s k (Some x) ≡ o → timed r.clock s.clock o ≡ Some e → IsCommon s e → IsOffered every all e)
    came_offered e x may other o is h common =
        let was : o ≡ Some e = timed_was r.clock s.clock o e h in
        let step : event_of r.program s k (offer_of x) ≡ Some e = brought x e other common (is ∙ was) in
        taken (offer_of x) e may (ap (timed r.clock s.clock) (step ∙ sym was) ∙ h)

-- ---- the moves near a recording

module _ (r : Rules) (offers : List Offered) (near all : Place) (outside : CameFromOutside r) (brings : Brings r offers near all) where
  abbrev each : Rules
  each = every_order r offers

  -- the next event of a source, where as much is owed
  next_offered : (j : Kept) → all.kept.owed ≡ j.owed → (source number : ℕ) → IsNext (slice_get near.left source) number → (e : Event)
      → timed r.clock near.state.clock (comes r.program r.recorded near.state j number) ≡ Some e → IsCommon near.state e → IsOffered each all e
  next_offered j owed source number next e h common = by (slice_get r.recorded number) refl h where
    by : (o : Option Recorded) → slice_get r.recorded number ≡ o
        → timed r.clock near.state.clock (comes_by r.program near.state j o) ≡ Some e → IsOffered each all e
    by None is g = absurd (none-some e g)
    by (Some x) is g =
        came_offered r offers all near.state brings.state j owed e x (brings.came source number x next is) (outside number x is)
        (comes_by r.program near.state j (Some x)) refl g common

  came_event : (source number : ℕ) (t : Option (List Left × ℕ)) (o : Option Event) (c : Choice)
      → come_by r.recorded near.kept source number t o ≡ Some c → o ≡ Some c.event
  came_event source number (Some t) (Some e) c h = ap (λ (x : Choice). Some x.event) (same_Some _ c h)
  came_event source number each e3 c h = search (none-some, same_Some)

  in_place_offered : (source : ℕ) (c : Choice) → in_place r near source ≡ Some c → IsCommon near.state c.event → IsOffered each all c.event
  in_place_offered source c h common = by (slice_get near.left source) refl h where
    by : (x : Option Left) → slice_get near.left source ≡ x → in_place_of r near source x ≡ Some c → IsOffered each all c.event
    by None is g = absurd (none-some c g)
    by (Some left.AtWill) is g = absurd (none-some c g)
    by (Some left.Over) is g = absurd (none-some c g)
    by (Some (left.Times n)) is g = absurd (none-some c g)
    by (Some (left.Held number)) is g = absurd (none-some c g)
    by (Some (left.Ahead number)) is g = due (is_due r near number) g where
      due : (b : Bool) → (if b then come_in_place r near source number else None) ≡ Some c → IsOffered each all c.event
      due true f =
          next_offered near.kept brings.owed source number (inl is) c.event (came_event source number (past r near number) _ c f) common
      due false f = absurd (none-some c f)

  else_event : (xs : List Left) (j : Kept) (source number : ℕ) (o : Option Event) (c : Choice) → elsewhere_by r.recorded xs j source number o ≡ Some c
      → o ≡ Some c.event
  else_event xs j source number None c h = absurd (none-some c h)
  else_event xs j source number (Some e) c h = ap (λ (x : Choice). Some x.event) (same_Some _ c h)

  else_with : (source number : ℕ) (next : IsNext (slice_get near.left source) number) (j : Option Kept) → ((l : Kept) → j ≡ Some l
      → all.kept.owed ≡ l.owed) → (c : Choice) → elsewhere_with r near.state near.left source number j ≡ Some c → IsCommon near.state c.event
      → IsOffered each all c.event
  else_with source number next None owed c h common = absurd (none-some c h)
  else_with source number next (Some l) owed c h common =
      let came = comes r.program r.recorded near.state l number in
      let event : timed r.clock near.state.clock (free_of near.state l came) ≡ Some c.event = else_event near.left l source number _ c h in
      let was : free_of near.state l came ≡ Some c.event = timed_was r.clock near.state.clock _ c.event event in
      let there : came ≡ Some c.event = free_was near.state l came c.event was in
      next_offered l (owed l refl) source number next c.event (ap (timed r.clock near.state.clock) (there ∙ sym was) ∙ event) common

  spent_owed : (o : Option ℕ) (l : Kept) → option_map (with_spare near.kept) o ≡ Some l → all.kept.owed ≡ l.owed
  spent_owed None l h = absurd (none-some l h)
  spent_owed (Some n) l h = brings.owed ∙ ap (λ (x : Kept). x.owed) (same_Some (with_spare near.kept n) l h)

  elsewhere_offered : (source : ℕ) (c : Choice) → elsewhere r near source ≡ Some c → IsCommon near.state c.event → IsOffered each all c.event
  elsewhere_offered source c h common = by (slice_get near.left source) refl h where
    by : (x : Option Left) → slice_get near.left source ≡ x → elsewhere_of r near source x ≡ Some c → IsOffered each all c.event
    by None is g = absurd (none-some c g)
    by (Some left.AtWill) is g = absurd (none-some c g)
    by (Some left.Over) is g = absurd (none-some c g)
    by (Some (left.Times n)) is g = absurd (none-some c g)
    by (Some (left.Ahead number)) is g =
        let less = option_map (with_spare near.kept) (spent near.kept.along.spare) in
        else_with source number (inl is) less (spent_owed (spent near.kept.along.spare)) c g common
    by (Some (left.Held number)) is g =
        else_with source number (inr is) (Some near.kept) (λ l e. brings.owed ∙ ap (λ (x : Kept). x.owed) (same_Some near.kept l e)) c g common

  on_event : (g : Option (Event × Kept)) (t : Option (List Left × ℕ)) (c : Choice) → go_on_by g t ≡ Some c
      → (x : Event × Kept) × (g ≡ Some x) × (x.0 ≡ c.event)
  on_event (Some x) (Some t) c h = (x, refl, ap (λ (y : Choice). y.event) (same_Some _ c h))
  on_event each e1 c h = search (none-some, same_Some)

  on_offered : (c : Choice) → go_on r near ≡ Some c → IsOffered each all c.event
  on_offered c h =
      let found = on_event (going r near.state near.kept) (past r near near.kept.along.next) c h in
      subst (IsOffered each all) found.2
      (going_offered r offers all near.state brings.state near.kept brings.owed brings.loop brings.wait found.0 found.1)

  moves_offered : (number : ℕ) (c : Choice) → recorded_at r near number ≡ Some c → IsCommon near.state c.event → IsOffered each all c.event
  moves_offered number c h common = by (number == 0) (nat_le number (length near.left)) h where
    by : (b d : Bool)
        → (if b then go_on r near else if d then in_place r near (number - 1) else elsewhere r near (number - 1 - length near.left)) ≡ Some c
        → IsOffered each all c.event
    by true d g = on_offered c g
    by false true g = in_place_offered (number - 1) c g common
    by false false g = elsewhere_offered (number - 1 - length near.left) c g common

recorded_move : (r : Rules) (k : ℕ) (p : Place) (number : ℕ) (c : Choice) → r.differ ≡ Some k → choice_at r p number ≡ Some c
    → recorded_at r p number ≡ Some c
unfolding choice_at
recorded_move r k p number c differ h = by (nat_lt number (move_count r p)) h where
  by : (b : Bool) → (if b then choice_by r p number r.differ else None) ≡ Some c → recorded_at r p number ≡ Some c
  by true g = ap (choice_by r p number) (sym differ) ∙ g
  by false g = absurd (none-some c g)

pub near_is_within : NearIsWithin
near_is_within r offers k near all number c differ outside brings h common =
    moves_offered r offers near all outside brings number c (recorded_move r k near number c differ h) common

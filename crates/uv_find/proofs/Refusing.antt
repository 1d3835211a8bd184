-- An offer that is spent, or has no event that leads on, leads nowhere.
use Rattle.uv_find.proofs.Names.{◌≡◌, ℕ, true, false, not, Bool, List, Option, Some, None, is_none, nat_lt, option_and_then, Err, slice_get, if◌then◌else◌, refl, ap, ◌∙◌, Event, Why, Id, Offer, Step, Wait, WaitFor, Offered, finish, work_of, State, Program, Kept, Left, Rules, Place, Choice, chosen, choice_by, event_of, keeps_clock, led, led_by, lessened, may_take, move_count, offered_by, placed, reached, timed, wait_until, is_brief, brief, may_last, wait_for, is_blocked, runner, finish_by, ranked, runs_none, has_none, is_idle}
use Rattle.uv_ids.specs.declared.event.Event.TheVariants as event
use Rattle.uv_ids.specs.declared.fault.Why.TheVariants as why
use Rattle.uv_model.specs.Next.{next}
use Rattle.uv_find.specs.Orders.{choice_at}

runs_nothing : (s : State) (x : Option (Option Id)) → is_none (option_and_then (λ run. run) x) ≡ true → (w : Why) × (work_of s x ≡ Err w)
runs_nothing s None e = (why.NoWorker, refl)
runs_nothing s (Some None) e = (why.IdleWorker, refl)
runs_nothing s (Some (Some id)) e = absurd (let f : ⊥ = cc in f)

-- where a worker would finish that runs nothing, the loop refuses
finish_refused : (r : Rules) (p : Place) (xs : List Left) (kept : Kept) (worker : ℕ)
    → is_none (option_and_then (λ run. run) (slice_get p.state.running worker)) ≡ true
    → led_by r p (chosen xs kept (Some (event.Finish worker))) ≡ None
unfolding next
finish_refused r p xs kept worker idle =
    let c : Choice = record { event = event.Finish worker; left = xs; kept = kept } in
    let none = runs_nothing p.state (slice_get p.state.running worker) idle in
    ap (λ x. placed r c (reached r.most x)) (ap (finish p.state worker) none.1)

finish_keeps : (most : Option ℕ) (clock worker : ℕ) → keeps_clock most clock (event.Finish worker) ≡ true
finish_keeps None clock worker = refl
finish_keeps (Some most) clock worker = refl

none_waits : (r : Rules) (p : Place) (deadline : Option ℕ) → is_none deadline ≡ true → wait_until r.program p.state deadline ≡ None
none_waits r p None e = refl
none_waits r p (Some deadline) e = absurd (let f : ⊥ = cc e in f)

none_lasts : (p : Program) (s : State) (ms : ℕ) → not (may_last s ms) ≡ true → wait_for p s ms ≡ None
none_lasts p s ms e = by (may_last s ms) e where
  by : (b : Bool) → not b ≡ true → (if b then (if is_blocked p s then Some (event.Tick ms) else None) else None) ≡ None
  by true h = absurd (let f : ⊥ = cc h in f)
  by false h = refl

-- so it is of a rank that no worker has
finish_none : (r : Rules) (p : Place) (xs : List Left) (forget : Option ℕ) (number : ℕ) → runs_none forget p.state number ≡ true
    → led_by r p (chosen xs p.kept (ranked forget p.state (Some (event.Finish number)))) ≡ None
finish_none r p xs None worker e = finish_refused r p xs p.kept worker e
finish_none r p xs (Some n) rank e = by (runner p.state rank) e where
  by : (o : Option ℕ) → is_none o ≡ true → led_by r p (chosen xs p.kept (finish_by o)) ≡ None
  by None none = refl
  by (Some worker) none = absurd (let f : false ≡ true = none in cc)

none_ranked : (forget : Option ℕ) (s : State) → ranked forget s None ≡ None
none_ranked None s = refl
none_ranked (Some n) s = refl

has_none_led : (r : Rules) (p : Place) (xs : List Left) (offer : Offer) → has_none r.forget p.state offer ≡ true
    → led_by r p (chosen xs p.kept (ranked r.forget p.state (timed r.clock p.state.clock (event_of r.program p.state p.kept offer)))) ≡ None
has_none_led r p xs (Step (event.Finish number)) e = simp (finish_keeps, finish_none)
has_none_led r p xs Wait e = simp (none_waits, none_ranked)
has_none_led r p xs (WaitFor ms) e = simp (none_lasts, none_ranked)
has_none_led r p xs offer e = absurd (let f : ⊥ = cc e in f)

-- so does no part of it
brief_none : (r : Rules) (p : Place) (xs : List Left) (o : Option Event) → led_by r p (chosen xs p.kept o) ≡ None
    → led_by r p (chosen xs p.kept (brief r.forget o)) ≡ None
brief_none r p xs None h = refl
brief_none r p xs (Some e) h = by (is_brief r.forget e) where
  by : (b : Bool) → led_by r p (chosen xs p.kept (if b then Some e else None)) ≡ None
  by true = h
  by false = refl

idle_by : (r : Rules) (p : Place) (xs : List Left) (offered : Option Offered) (x : Option Left) → is_idle r.forget p.state offered x ≡ true
    → led_by r p (chosen xs p.kept (offered_by r p offered x)) ≡ None
idle_by r p xs (Some offered) (Some x) e = by (may_take x) refl where
  by : (b : Bool) → may_take x ≡ b → led_by r p (chosen xs p.kept (offered_by r p (Some offered) (Some x))) ≡ None
  by true may =
      rw may (brief_none r p xs (ranked r.forget p.state (timed r.clock p.state.clock (event_of r.program p.state p.kept offered.offer)))
      (has_none_led r p xs offered.offer (rw may at e)))
  by false may = rw may (ap (λ o. led_by r p (chosen xs p.kept (brief r.forget o))) (none_ranked r.forget p.state))
idle_by r p xs each e4 e = assumption

-- a spent offer, and one without an event that leads on, leads nowhere
pub idle_leads_nowhere : (r : Rules) (p : Place) (number : ℕ) → r.differ ≡ None
    → is_idle r.forget p.state (slice_get r.offers number) (slice_get p.left number) ≡ true → led r p number ≡ None
unfolding choice_at
idle_leads_nowhere r p number offers idle = by (nat_lt number (move_count r p)) where
  by : (b : Bool) → led_by r p (if b then choice_by r p number r.differ else None) ≡ None
  by true = ap (λ d. led_by r p (choice_by r p number d)) offers
      ∙ idle_by r p (lessened p.left number) (slice_get r.offers number) (slice_get p.left number) idle
  by false = refl

-- The active timers, by their names, are told by what the names hold: they stand in the order in which they are due.
use Rattle.uv_tale.proofs.Names.{◌≡◌, ℕ, inl, inr, List, [], ◌∷◌, true, Option, Some, None, refl, ap, sym, subst, ◌∙◌, arith, option_and_then, slice_get, map, option_map, unwrap_or, none-some, same_Some, slice_get-map, Due, Id, HandleRecord, Named, Slot, unbound, held, held_in, Content, State, named, Has, Before, InOrder, IsTimer, AreTimers, base, earlier, earliest, Retiming, retimed_content, retimed_handle, retimed_slot, IsTidy, Told, Holds, as_id, bound_by, bound_to, name_at, number_of, tale, told_name, Less, due_cmp, Var, handle_in, due_cmp_total}
use Rattle.uv_ids.specs.declared.phase.Kind.TheVariants as kind
use Rattle.uv_work.specs.declared.content.Content.TheVariants as content
use Rattle.uv_tale.proofs.Made.{named_entry}

-- ---- two lists in that order, with the same entries

not_itself : (a b : Due) → a ≡ b → due_cmp a b ≡ Less → ⊥
not_itself a b e l = grind arith

before_each : (ts : List (Due × Id)) (a b : Due) (id : Id) → Before a ts → Has ts b id → due_cmp a b ≡ Less
before_each [] a b id h k = absurd k
before_each (t ∷ ts) a b id h (inl is) = subst (λ (x : Due). due_cmp a x ≡ Less) is.0 h.0
before_each (t ∷ ts) a b id h (inr later) = before_each ts a b id h.1 later

-- whoever stands in the one stands in the other
abbrev pub Within : List (Due × Id) → List (Due × Id) → Type 0
Within ts us = (due : Due) (id : Id) → Has ts due id → Has us due id

-- where the first ones are the same, so are those behind it
within_rest : (t u : Due × Id) (ts us : List (Due × Id)) → t.0 ≡ u.0 → Before t.0 ts → Within (t ∷ ts) (u ∷ us) → Within ts us
within_rest t u ts us e before w due id h = grind (arith, not_itself, before_each)

first_same : (t u : Due × Id) (ts us : List (Due × Id)) → Before t.0 ts → Before u.0 us → Has (u ∷ us) t.0 t.1 → Has (t ∷ ts) u.0 u.1 →
    (t.0 ≡ u.0) × (t.1 ≡ u.1)
first_same t u ts us bt bu (inl is) k = (sym is.0, sym is.1)
first_same t u ts us bt bu (inr h) (inl is) = (is.0, is.1)
first_same t u ts us bt bu (inr h) (inr k) = absurd
    (not_itself u.0 u.0 refl (due_cmp_total.trans u.0 t.0 u.0 (before_each us u.0 t.0 t.1 bu h) (before_each ts t.0 u.0 u.1 bt k)))

pub same_list : (ts us : List (Due × Id)) → InOrder ts → InOrder us → Within ts us → Within us ts → ts ≡ us
same_list [] [] s r w v = refl
same_list [] (u ∷ us) s r w v = absurd (v u.0 u.1 (inl (refl, refl)))
same_list (t ∷ ts) [] s r w v = absurd (w t.0 t.1 (inl (refl, refl)))
same_list (t ∷ ts) (u ∷ us) s r w v =
    let first = first_same t u ts us s.0 r.0 (w t.0 t.1 (inl (refl, refl))) (v u.0 u.1 (inl (refl, refl))) in
    let same : t ≡ u = λ i. (first.0 i, first.1 i) in
    search ((same_list ts us s.1 r.1 (within_rest t u ts us first.0 s.0 w) (within_rest u t us ts (sym first.0) r.0 v)))

-- ---- entries by names

before_named : (slots : List (Slot Content)) (ts : List (Due × Id)) (due : Due) → Before due ts → Before due (map (named_entry slots) ts)
before_named slots [] due h = tt
before_named slots (t ∷ ts) due h = (h.0, before_named slots ts due h.1)

order_named : (slots : List (Slot Content)) (ts : List (Due × Id)) → InOrder ts → InOrder (map (named_entry slots) ts)
order_named slots [] h = tt
order_named slots (t ∷ ts) h = (before_named slots ts t.0 h.0, order_named slots ts h.1)

has_named : (slots : List (Slot Content)) (ts : List (Due × Id)) (due : Due) (id : Id) → Has ts due id →
    Has (map (named_entry slots) ts) due (as_id (name_at slots id))
has_named slots [] due id h = h
has_named slots (t ∷ ts) due id (inl is) = inl (is.0, ap (λ (i : Id). as_id (name_at slots i)) is.1)
has_named slots (t ∷ ts) due id (inr rest) = inr (has_named slots ts due id rest)

has_unnamed : (slots : List (Slot Content)) (ts : List (Due × Id)) (due : Due) (name : Id) → Has (map (named_entry slots) ts) due name →
    (id : Id) × Has ts due id × (as_id (name_at slots id) ≡ name)
has_unnamed slots [] due name h = absurd h
has_unnamed slots (t ∷ ts) due name (inl is) = (t.1, inl (is.0, refl), is.1)
has_unnamed slots (t ∷ ts) due name (inr rest) = let k = has_unnamed slots ts due name rest in (k.0, inr k.1, k.2)

-- ---- what is told of a timer

-- the name of this number holds an active timer, which is due then
record IsTold (ts : List Told) (key : Due) (name : ℕ) : Type 0 where
  its : HandleRecord
  told : Told
  at : slice_get ts name ≡ Some told
  bound : told.bound ≡ Holds (content.Handle its)
  kind : its.kind ≡ kind.Timer
  active : its.active ≡ true
  due : its.due ≡ key

pub held_retimed : (r : Retiming) (slots : List (Slot Content)) (id : Id) →
    held (map (retimed_slot r) slots) id ≡ option_map (retimed_content r) (held slots id)
held_retimed r slots id = ap (option_and_then (held_in id)) (slice_get-map (retimed_slot r) slots id.slot) ∙ grind arith

name_there : (ns : List Named) (v : ℕ) (o : Option Named) (id : Id) → slice_get ns v ≡ o → (unwrap_or o unbound).id ≡ Some id →
    (m : Named) × (slice_get ns v ≡ Some m) × (m.id ≡ Some id)
name_there ns v o id e f = grind arith

module _ (n : ℕ) (s : State) (tidy : IsTidy s) (times : AreTimers (earliest s) (earliest s).timers) where
  timer_is : (due : Due) (id : Id) → IsTimer (earliest s) due id → IsTold (tale n s).names due (name_at s.arena.slots id)
  timer_is due id k = by (held s.arena.slots id) refl (sym (ap handle_in (held_retimed (earlier (base s)) s.arena.slots id)) ∙ k.holds) where
    by : (c : Option Content) → held s.arena.slots id ≡ c → handle_in (option_map (retimed_content (earlier (base s))) c) ≡ Some k.its →
        IsTold (tale n s).names due (name_at s.arena.slots id)
    by None e f = absurd (none-some k.its f)
    by (Some (content.Request r)) e f = absurd (none-some k.its f)
    by (Some (content.Handle h)) e f =
        let there = name_there s.names h.name.0 (slice_get s.names h.name.0) id refl (tidy.bound id (content.Handle h) e) in
        let same : retimed_handle (earlier (base s)) h ≡ k.its = same_Some (retimed_handle (earlier (base s)) h) k.its f in
        record {
          its = k.its;
          told = told_name (base s) n s.arena.slots there.0;
          at = ap (λ (c : Option Content). slice_get (tale n s).names (number_of c)) e
              ∙ slice_get-map (told_name (base s) n s.arena.slots) s.names h.name.0
              ∙ ap (option_map (told_name (base s) n s.arena.slots)) there.1;
          bound = ap (bound_to (base s) s.arena.slots) there.2 ∙ ap (bound_by (base s)) e
              ∙ ap (λ (x : HandleRecord). Holds (content.Handle x)) same;
          kind = k.kind;
          active = k.active;
          due = k.due;
        }

  -- an active timer of this name
  abbrev IsCalled : Due → ℕ → Type 0
  IsCalled due name = (id : Id) × IsTimer (earliest s) due id × (name_at s.arena.slots id ≡ name)

  timer_was : (due : Due) (name : ℕ) → IsTold (tale n s).names due name → IsCalled due name
  timer_was due name k = by (slice_get s.names name) refl (sym (slice_get-map (told_name (base s) n s.arena.slots) s.names name) ∙ k.at) where
    holds : (m : Named) (id : Id) (c : Option Content) → slice_get s.names name ≡ Some m → m.id ≡ Some id → held s.arena.slots id ≡ c →
        bound_by (base s) c ≡ Holds (content.Handle k.its) → IsCalled due name
    holds m id None at is e f = absurd (let g : ⊥ = cc in g)
    holds m id (Some x) at is e f =
        let same : retimed_content (earlier (base s)) x ≡ content.Handle k.its = cc in
        let v : Var = record { 0 = name } in
        let bound : (named s v).id ≡ Some id = ap (λ (o : Option Named). (unwrap_or o unbound).id) at ∙ is in (
          id,
          record {
            its = k.its;
            holds = ap handle_in (held_retimed (earlier (base s)) s.arena.slots id)
                ∙ ap (λ (c : Option Content). handle_in (option_map (retimed_content (earlier (base s))) c)) e
                ∙ ap (λ (y : Content). handle_in (Some y)) same;
            kind = k.kind;
            active = k.active;
            due = k.due;
          },
          ap number_of e ∙ ap (λ (u : Var). u.0) (tidy.alone v id x bound e),
        )

    bound_as : (m : Named) (o : Option Id) → slice_get s.names name ≡ Some m → m.id ≡ o →
        bound_to (base s) s.arena.slots o ≡ Holds (content.Handle k.its) → IsCalled due name
    bound_as m None at is f = absurd (let g : ⊥ = cc in g)
    bound_as m (Some id) at is f = holds m id (held s.arena.slots id) at is refl f

    by : (o : Option Named) → slice_get s.names name ≡ o → option_map (told_name (base s) n s.arena.slots) o ≡ Some k.told → IsCalled due name
    by None at f = absurd (none-some k.told f)
    by (Some m) at f =
        let same = same_Some (told_name (base s) n s.arena.slots m) k.told f in
        bound_as m m.id at refl (ap (λ (t : Told). t.bound) same ∙ k.bound)

  -- the order of timers, by their names
  abbrev pub timers_named : List (Due × Id)
  timers_named = map (named_entry s.arena.slots) (earliest s).timers

  named_order : InOrder timers_named
  named_order = order_named s.arena.slots (earliest s).timers times.sorted

  named_is : (due : Due) (name : Id) → Has timers_named due name → (v : ℕ) × IsTold (tale n s).names due v × (as_id v ≡ name)
  named_is due name h =
      let k = has_unnamed s.arena.slots (earliest s).timers due name h in
      (name_at s.arena.slots k.0, timer_is due k.0 (times.each due k.0 k.1), k.2)

  named_was : (due : Due) (v : ℕ) → IsTold (tale n s).names due v → Has timers_named due (as_id v)
  named_was due v h =
      let k = timer_was due v h in
      subst (λ (u : ℕ). Has timers_named due (as_id u)) k.2 (has_named s.arena.slots (earliest s).timers due k.0 (times.all due k.0 k.1))

module _ (n : ℕ) (s t : State) (tidy : IsTidy s) (times : AreTimers (earliest s) (earliest s).timers) (neat : IsTidy t)
    (ticks : AreTimers (earliest t) (earliest t).timers) (same : (tale n s).names ≡ (tale n t).names) where
  named_within : Within (timers_named n s tidy times) (timers_named n t neat ticks)
  named_within due name h =
      let k = named_is n s tidy times due name h in
      subst (Has (timers_named n t neat ticks) due) k.2
      (named_was n t neat ticks due k.0 (subst (λ (ts : List Told). IsTold ts due k.0) same k.1))

pub named_timers : (n : ℕ) (s t : State) → IsTidy s → AreTimers (earliest s) (earliest s).timers → IsTidy t →
    AreTimers (earliest t) (earliest t).timers → (tale n s).names ≡ (tale n t).names →
    map (named_entry s.arena.slots) (earliest s).timers ≡ map (named_entry t.arena.slots) (earliest t).timers
named_timers n s t tidy times neat ticks same =
    same_list (timers_named n s tidy times) (timers_named n t neat ticks) (named_order n s tidy times) (named_order n t neat ticks)
    (named_within n s t tidy times neat ticks same) (named_within n t s neat ticks tidy times (sym same))

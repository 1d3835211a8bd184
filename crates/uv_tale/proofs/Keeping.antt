-- What holds of a state holds of it with its slots in another order.
use Rattle.uv_tale.proofs.Names.{◌≡◌, ℕ, ◌+◌, ◌==◌, ◌&&◌, ◌++◌, List, [], ◌∷◌, Bool, true, Option, Some, None, refl, ap, ap₂, sym, ◌∙◌, Id, Due, HandleRecord, held, Program, Content, same_id, State, handle, front, watched, ◌||◌, ◌<◌, ◌^◌, subst, inl, inr, map, option_map, map-append, is_timer, Walk, first_due, has_id, run_ids, Has, IsTimer, AreTimers, InOrder, Before, TimesFit, IsTimed, IsInSlot, IsYoung, arranged_id, arranged, Fits, number_at, same_place, held_arranged, place_number, WatcherKind, first_due_relabeled, front_relabeled, handle_relabeled, in_order, relabeled_entry, relabeled_pair, relabeled_walk}
use Rattle.uv_tale.proofs.Order.{one_place}
use Rattle.uv_records.specs.declared.lists.WatcherKind.TheVariants as watcher

module _ (o : List ℕ) (s : State) (fits : Fits o s.arena.slots) where
  -- the id that comes to be this one
  back : Id → Id
  back id = record id { slot = number_at o id.slot }

  there : (id : Id) → arranged_id o (back id) ≡ id
  unfolding back
  there id = ap (λ (n : ℕ). record id { slot = n }) (place_number o id.slot fits.order)

  each_id : (P : Id → Type 0) → ((id : Id) → P (arranged_id o id)) → (id : Id) → P id
  each_id P h id = subst P (there id) (h (back id))

  same_ids : (a b : Id) → same_id (arranged_id o a) (arranged_id o b) ≡ same_id a b
  same_ids a b = ap (λ (same : Bool). same && (a.generation == b.generation)) (same_place o a.slot b.slot fits.order)

  one_id : (a b : Id) → arranged_id o a ≡ arranged_id o b → a ≡ b
  one_id a b e =
      let slot = one_place o a.slot b.slot fits.order (ap (λ (x : Id). x.slot) e) in
      let generation = ap (λ (x : Id). x.generation) e in
      λ i. record { slot = slot i; generation = generation i }

  holds : (id : Id) → held (arranged o s).arena.slots (arranged_id o id) ≡ held s.arena.slots id
  holds id = held_arranged o s.arena.slots id fits

  -- ---- its generations

  has_same : (ids : List Id) (id : Id) → has_id (map (arranged_id o) ids) (arranged_id o id) ≡ has_id ids id
  has_same [] id = refl
  has_same (x ∷ xs) id = ap₂ (λ a b. a || b) (same_ids x id) (has_same xs id)

  slot_arranged : (id : Id) → IsInSlot s id → IsInSlot (arranged o s) (arranged_id o id)
  slot_arranged id k = record { its = k.its; holds = holds id ∙ k.holds }

  ids_in : (ids : List Id) → ((id : Id) → has_id ids id ≡ true → IsInSlot s id) →
      (id : Id) → has_id (map (arranged_id o) ids) id ≡ true → IsInSlot (arranged o s) id
  ids_in ids h = each_id (λ id. has_id (map (arranged_id o) ids) id ≡ true → IsInSlot (arranged o s) id)
      (λ id k. slot_arranged id (h id (sym (has_same ids id) ∙ k)))

  walk_in : (w : Walk Id) → ((id : Id) → has_id (w.list ++ w.yet) id ≡ true → IsInSlot s id) →
      (id : Id) → has_id ((relabeled_walk (in_order o) w).list ++ (relabeled_walk (in_order o) w).yet) id ≡ true → IsInSlot (arranged o s) id
  walk_in w h id k = ids_in (w.list ++ w.yet) h id (ap (λ ids. has_id ids id) (map-append (arranged_id o) w.list w.yet) ∙ k)

  runs_arranged : (running : List (Option Id)) → run_ids (map (option_map (arranged_id o)) running) ≡ map (arranged_id o) (run_ids running)
  runs_arranged [] = refl
  runs_arranged (None ∷ xs) = runs_arranged xs
  runs_arranged (Some id ∷ xs) = ap (λ ids. arranged_id o id ∷ ids) (runs_arranged xs)

  watchers_in : (q : WatcherKind) → ((id : Id) → has_id ((watched s q).list ++ (watched s q).yet) id ≡ true → IsInSlot s id) →
      (id : Id) → has_id ((watched (arranged o s) q).list ++ (watched (arranged o s) q).yet) id ≡ true → IsInSlot (arranged o s) id
  watchers_in watcher.Idle h = walk_in s.watchers.idle h
  watchers_in watcher.Prepare h = walk_in s.watchers.prepare h
  watchers_in watcher.Check h = walk_in s.watchers.check h
  watchers_in watcher.Async h = walk_in s.watchers.async h

  has_there : (ts : List (Due × Id)) (due : Due) (id : Id) → Has ts due id → Has (map (relabeled_entry (in_order o)) ts) due (arranged_id o id)
  has_there [] due id h = h
  has_there (t ∷ ts) due id (inl is) = inl (is.0, ap (arranged_id o) is.1)
  has_there (t ∷ ts) due id (inr rest) = inr (has_there ts due id rest)

  has_back : (ts : List (Due × Id)) (due : Due) (id : Id) → Has (map (relabeled_entry (in_order o)) ts) due (arranged_id o id) → Has ts due id
  has_back [] due id h = h
  has_back (t ∷ ts) due id (inl is) = inl (is.0, one_id t.1 id is.1)
  has_back (t ∷ ts) due id (inr rest) = inr (has_back ts due id rest)

  pub arranged_young : (p : Program) → IsYoung p s → IsYoung p (arranged o s)
  arranged_young p h = record {
    timers = λ due. each_id (λ id. Has (map (relabeled_entry (in_order o)) s.timers) due id → IsInSlot (arranged o s) id)
        (λ id k. slot_arranged id (h.timers due id (has_back s.timers due id k)));
    ready = ids_in s.ready h.ready;
    watchers = λ q. watchers_in q (h.watchers q);
    closing = walk_in s.closing h.closing;
    opened = λ id k. ids_in (s.waiting ++ run_ids s.running) h.opened id
        (ap (λ ids. has_id ids id) (map-append (arranged_id o) s.waiting (run_ids s.running)
        ∙ ap (λ ids. map (arranged_id o) s.waiting ++ ids) (sym (runs_arranged s.running))) ∙ k);
    done = walk_in s.done h.done;
    left = each_id (λ id. (x : Content) → held (arranged o s).arena.slots id ≡ Some x → id.generation < _)
        (λ id x e. h.left id x (sym (holds id) ∙ e));
  }

  -- ---- its times

  timer_arranged : (due : Due) (id : Id) → IsTimer s due id → IsTimer (arranged o s) due (arranged_id o id)
  timer_arranged due id k =
      record { its = k.its; holds = handle_relabeled (in_order o) s holds id ∙ k.holds; kind = k.kind; active = k.active; due = k.due }

  timer_back : (due : Due) (id : Id) → IsTimer (arranged o s) due (arranged_id o id) → IsTimer s due id
  timer_back due id k =
      record { its = k.its; holds = sym (handle_relabeled (in_order o) s holds id) ∙ k.holds; kind = k.kind; active = k.active; due = k.due }

  before_arranged : (due : Due) (ts : List (Due × Id)) → Before due ts → Before due (map (relabeled_entry (in_order o)) ts)
  before_arranged due [] h = tt
  before_arranged due (t ∷ ts) h = (h.0, before_arranged due ts h.1)

  order_arranged : (ts : List (Due × Id)) → InOrder ts → InOrder (map (relabeled_entry (in_order o)) ts)
  order_arranged [] h = tt
  order_arranged (t ∷ ts) h = (before_arranged t.0 ts h.0, order_arranged ts h.1)

  timers_arranged : AreTimers s s.timers → AreTimers (arranged o s) (map (relabeled_entry (in_order o)) s.timers)
  timers_arranged h = record {
    each = λ due. each_id (λ id. Has (map (relabeled_entry (in_order o)) s.timers) due id → IsTimer (arranged o s) due id)
        (λ id k. timer_arranged due id (h.each due id (has_back s.timers due id k)));
    all = λ due. each_id (λ id. IsTimer (arranged o s) due id → Has (map (relabeled_entry (in_order o)) s.timers) due id)
        (λ id k. has_there s.timers due id (h.all due id (timer_back due id k)));
    sorted = order_arranged s.timers h.sorted;
  }

  timer_pair : (x : Option (Id × HandleRecord)) → ((t : Id × HandleRecord) → x ≡ Some t → is_timer t.1.kind ≡ true) →
      (t : Id × HandleRecord) → option_map (relabeled_pair (in_order o)) x ≡ Some t → is_timer t.1.kind ≡ true
  timer_pair None h t e = absurd (let f : ⊥ = cc in f)
  timer_pair (Some u) h t e =
      let same : relabeled_pair (in_order o) u ≡ t = cc in
      ap (λ (y : Id × HandleRecord). is_timer y.1.kind) (sym same) ∙ h u refl

  times_arranged : (p : Program) → TimesFit p s → TimesFit p (arranged o s)
  times_arranged p h = record {
    starts = h.starts;
    repeats = each_id (λ id. (x : HandleRecord) → handle (arranged o s) id ≡ Some x → s.time + x.repeat < 2 ^ 64)
        (λ id x e. h.repeats id x (sym (handle_relabeled (in_order o) s holds id) ∙ e));
    ready = λ t e. timer_pair (front s s.ready) h.ready t (sym (front_relabeled (in_order o) s holds s.ready) ∙ e);
    first = λ t e. timer_pair (first_due s s.timers) h.first t (sym (first_due_relabeled (in_order o) s holds s.timers) ∙ e);
  }

  pub arranged_timed : (p : Program) → IsTimed p s → IsTimed p (arranged o s)
  arranged_timed p h = record { timers = timers_arranged h.timers; fits = times_arranged p h.fits }

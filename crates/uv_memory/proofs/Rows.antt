-- The parts of each change, undone one by one, are what takes the change back.
use Rattle.uv_memory.proofs.Names.{◌≡◌, ℕ, zero, suc, ◌<◌, Bool, true, false, List, [], ◌∷◌, ◌++◌, length, set, Option, Some, None, refl, sym, ap, ◌∙◌, subst, arith, Id, Var, Callback, ChainPlace, RecordUndo, delist_undone, HeapRemoveUndo, SetUndo, TimerUndo, CollectUndo, timer_undone, collect_undone, WalkUndo, walk_undone, Handle, Change, Naming, Record, Calls, Named, count_of, with_count, named, binding, calling, alive_count, working, idle_workers, IsWork, Content, handle_of, request_of, Image, counted_of, timed_of, with_counted, with_timed, standing, Part, Stood, Bound, PutOn, Passed, WatcherKind, undo, unwind_parts, unwind, was_bound, edit_parts, woken_parts, off_parts, put_parts, removed_parts, set_parts, timer_parts, change_parts, naming_parts, CanRename, CanUndo, CanUnwind, Recorded, Extended, off_if, IsFit, changed, moved_by}
use Rattle.uv_ids.specs.declared.seen.Callback.TheVariants as callback
use Rattle.uv_memory.specs.Change as change
use Rattle.uv_memory.specs.declared.record.Naming.TheVariants as naming
use Rattle.uv_arena.specs.Image as arena

names_back : (ns : List Named) (v : ℕ) (a b : Named) → b ≡ named ns v → set (set ns v a) v b ≡ ns
names_back [] v a b e = refl
names_back (x ∷ ns) zero a b e = ap (λ q. q ∷ ns) e
names_back (x ∷ ns) (suc v) a b e = ap (λ q. x ∷ q) (names_back ns v a b e)

named_set : (ns : List Named) (v : ℕ) (a : Named) → v < length ns → named (set ns v a) v ≡ a
named_set [] v a l = absurd (omega (arith, l))
named_set (x ∷ ns) zero a l = refl
named_set (x ∷ ns) (suc v) a l = named_set ns v a (omega (arith, l))

length_set : (ns : List Named) (v : ℕ) (a : Named) → length (set ns v a) ≡ length ns
length_set [] v a = refl
length_set (x ∷ ns) zero a = refl
length_set (x ∷ ns) (suc v) a = ap suc (length_set ns v a)

with_back : (which : Callback) (n : ℕ) (c : Calls) → with_count which (count_of which c) (with_count which n c) ≡ c
with_back callback.Handle n c = refl
with_back callback.After n c = refl
with_back callback.Close n c = refl

module _ {P : Type 0} where
  unwind_append : (xs ys : List (Part P)) (i : Image P) → unwind_parts (xs ++ ys) i ≡ unwind_parts xs (unwind_parts ys i)
  unwind_append [] ys i = refl
  unwind_append (x ∷ xs) ys i = let rest = unwind_append xs ys i in ap (unwind_parts (x ∷ [])) rest

  -- where the loop stood and what became of a name are undone before the change
  pub unwind_apart : (r : Record P) (i : Image P)
      → unwind r i ≡ unwind_parts (change_parts r.change) (unwind_parts (naming_parts r.naming) (standing r.place i))
  unwind_apart r i =
      let place : List (Part P) = Stood r.place ∷ [] in
      unwind_append (change_parts r.change) (naming_parts r.naming ++ place) i
      ∙ ap (unwind_parts (change_parts r.change)) (unwind_append (naming_parts r.naming) place i)

  -- ---- each change

  pub put_back : (b : Bool) (x : ℕ) (i : Image P) → unwind_parts (put_parts b x) i ≡ off_if b x i
  put_back false x i = refl
  put_back true x i = refl

  pub delist_back : (o : Option ChainPlace) (c : RecordUndo) (i : Image P)
      → unwind_parts (off_parts o ++ edit_parts c) i ≡ with_counted (delist_undone handle_of Handle (record {
        unlinked = o;
        changed =
            c;
      }) (counted_of i)) i
  delist_back None c i = refl
  delist_back (Some t) c i = refl

  timer_cases : (r : Option HeapRemoveUndo) (o : Option ChainPlace) (c : RecordUndo) (s : Option SetUndo) (i : Image P)
      → unwind_parts (removed_parts r ++ (off_parts o ++ edit_parts c) ++ set_parts s) i
      ≡ with_timed (timer_undone handle_of Handle (record { removed = r; delisted = record { unlinked = o; changed = c }; set = s }) (timed_of i)) i
  timer_cases None None c None i = refl
  timer_cases None None c (Some s) i = refl
  timer_cases None (Some t) c None i = refl
  timer_cases None (Some t) c (Some s) i = refl
  timer_cases (Some r) None c None i = refl
  timer_cases (Some r) None c (Some s) i = refl
  timer_cases (Some r) (Some t) c None i = refl
  timer_cases (Some r) (Some t) c (Some s) i = refl

  pub timer_back : (u : TimerUndo) (i : Image P) → unwind_parts (timer_parts u) i ≡ with_timed (timer_undone handle_of Handle u (timed_of i)) i
  timer_back u i = timer_cases u.removed u.delisted.unlinked u.delisted.changed u.set i

  pub moved_back : (u : CollectUndo) (i : Image P)
      → unwind_parts (change_parts (moved_by u)) i ≡ with_timed (collect_undone handle_of Handle u (timed_of i)) i
  moved_back u i = let put : List (Part P) = PutOn u.pushed.slot ∷ [] in unwind_append (timer_parts u.timer) put i
      ∙ timer_back u.timer (unwind_parts put i)

  walk_cases : (k : WatcherKind) (w : Option RecordUndo) (i : Image P)
      → unwind_parts (Passed k ∷ woken_parts w) i ≡ with_counted (walk_undone handle_of Handle (record { kind = k; woken = w }) (counted_of i)) i
  walk_cases k None i = refl
  walk_cases k (Some u) i = refl

  pub walk_back : (u : WalkUndo) (i : Image P)
      → unwind_parts (change_parts (change.Walked u)) i ≡ with_counted (walk_undone handle_of Handle u (counted_of i)) i
  walk_back u i = walk_cases u.kind u.woken i

  -- ---- a step with its record

  pub recorded : (c : Change) (r : Record P) (i j : Image P) (room more : ℕ) → more ≡ room → r ≡ changed i.place c
      → unwind_parts (change_parts c) (standing i.place j) ≡ i → CanUndo more c (standing i.place j) → IsFit i → IsFit j → j.place ≡ i.place →
      j.names ≡ i.names
      → Recorded r (record { image = i; room = room }) (record { image = j; room = more })
  recorded c r i j room more same is back can fit now place names =
      let whole : unwind (changed i.place c) j ≡ i = unwind_apart (changed i.place c) j ∙ back in
      subst (λ q. Recorded q (record { image = i; room = room }) (record { image = j; room = more })) (sym is) (record {
        back = whole;
        can = record { naming = tt; change = can; fit = subst (λ k. IsFit k) (sym whole) fit };
        unnamed = refl;
        fit = now;
        place = place;
        names = names;
        room = same;
      })

  -- a record is unwound as its two halves are
  -- what is undone part by part is unwound, where these are the record's parts
  pub unwound_by : (r : Record P) (i a b : Image P) (place : P) (n : Naming) (c : Change) → place ≡ r.place → n ≡ r.naming → c ≡ r.change
      → a ≡ unwind_parts (naming_parts n) (standing place i) → b ≡ unwind_parts (change_parts c) a → b ≡ unwind r i
  unwound_by r i a b place n c stood same is e f =
      let before : a ≡ unwind_parts (naming_parts r.naming) (standing r.place i) =
      e ∙ (λ l. unwind_parts (naming_parts (same l)) (standing (stood l) i)) in
      f ∙ (λ l. unwind_parts (change_parts (is l)) (before l)) ∙ sym (unwind_apart r i)

  -- where the loop stands doesn't matter to what is unwound
  stand_back : (r : Record P) (i : Image P) (place : P) → unwind r (standing place i) ≡ unwind r i
  stand_back r i place = unwind_apart r (standing place i) ∙ sym (unwind_apart r i)

  rename_stands : (n : Naming) (i : Image P) (place : P) → CanRename n i → CanRename n (standing place i)
  rename_stands naming.Same i place h = tt
  rename_stands (naming.Unbound v) i place h = h
  rename_stands (naming.Bound v id) i place h = h
  rename_stands (naming.Called v which n) i place h = h

  pub can_stand : (room : ℕ) (r : Record P) (i : Image P) (place : P) → CanUnwind room r i → CanUnwind room r (standing place i)
  can_stand room r i place h = record {
    naming = rename_stands r.naming i place h.naming;
    change = h.change;
    fit = subst (λ k. IsFit k) (sym (stand_back r i place)) h.fit;
  }

  -- ---- what a step does besides

  pub stood : (r : Record P) (i : Image P) (room : ℕ) (place : P) → CanUnwind room r i → IsFit i
      → Extended r r (record { image = i; room = room }) (record { image = standing place i; room = room })
  stood r i room place can fit = record {
    back = stand_back r i place;
    can = can_stand room r i place can;
    fit = record { counts = fit.counts; work = fit.work };
    room = refl;
  }

  -- a name has been changed, and the record puts back what it was
  renamed : (r s : Record P) (i : Image P) (room : ℕ) (ns : List Named) (n : Naming) → CanUnwind room r i → IsFit i → r.naming ≡ naming.Same
      → s ≡ record { place = r.place; naming = n; change = r.change }
      → CanRename n (record i { names = ns })
      → unwind_parts (naming_parts n) (record (standing r.place i) { names = ns }) ≡ standing r.place i
      → Extended r s (record { image = i; room = room }) (record { image = record i { names = ns }; room = room })
  renamed r s i room ns n can fit same is within back =
      let j = record i { names = ns } in
      let t : Record P = record { place = r.place; naming = n; change = r.change } in
      let before : unwind_parts (naming_parts r.naming) (standing r.place i) ≡ standing r.place i =
      ap (λ m. unwind_parts (naming_parts m) (standing r.place i)) same in
      let whole : unwind t j ≡ unwind r i =
      unwind_apart t j ∙ ap (unwind_parts (change_parts r.change)) (back ∙ sym before) ∙ sym (unwind_apart r i) in
      subst (λ q. Extended r q (record { image = i; room = room }) (record { image = j; room = room })) (sym is) (record {
        back = whole;
        can = record {
          naming = within;
          change = subst (CanUndo room r.change) (before ∙ sym back) can.change;
          fit = subst (λ k. IsFit k) (sym whole) can.fit;
        };
        fit = record { counts = fit.counts; work = fit.work };
        room = refl;
      })

  -- what a name was bound to is put back, whether that was something or not
  bound_parts : (v : Var) (o : Option Id) (i : Image P) → unwind_parts (naming_parts (was_bound v o)) i ≡ undo (Bound v o) i
  bound_parts v None i = refl
  bound_parts v (Some id) i = refl

  can_rebind : (v : Var) (o : Option Id) (i : Image P) → v.0 < length i.names → CanRename (was_bound v o) i
  can_rebind v None i h = h
  can_rebind v (Some id) i h = h

  pub bound : (r s : Record P) (i : Image P) (room : ℕ) (v : Var) (id old : Option Id) (ns : List Named) (n : Naming) → n ≡ was_bound v old
      → CanUnwind room r i → IsFit i
      → r.naming ≡ naming.Same
      → v.0 < length i.names → ns ≡ binding v.0 id i.names → old ≡ (named i.names v.0).id
      → s ≡ record { place = r.place; naming = n; change = r.change }
      → Extended r s (record { image = i; room = room }) (record { image = record i { names = ns }; room = room })
  bound r s i room v id o ns n before can fit same within made was is =
      let new : Named = record { id = id; calls = (named i.names v.0).calls } in
      let here = named_set i.names v.0 new within in
      let old : Named = record { id = (named i.names v.0).id; calls = (named (set i.names v.0 new) v.0).calls } in
      let e : old ≡ named i.names v.0 = ap (λ (q : Named). (let z : Named = record { id = (named i.names v.0).id; calls = q.calls } in z)) here in
      subst (λ q. Extended r s (record { image = i; room = room }) (record { image = record i { names = q }; room = room })) (sym made)
      (renamed r s i room (binding v.0 id i.names) (was_bound v (named i.names v.0).id) can fit same
      (is
      ∙ ap (λ m. (let t : Record P = record { place = r.place; naming = m; change = r.change } in t)) (before ∙ ap (was_bound v) was))
      (can_rebind v (named i.names v.0).id _ (omega (arith, within, length_set i.names v.0 new)))
      (bound_parts v (named i.names v.0).id _
      ∙ ap (λ q. record (standing r.place i) { names = q }) (names_back i.names v.0 new old e)))

  pub called : (r s : Record P) (i : Image P) (room : ℕ) (v : Var) (which : Callback) (n o : ℕ) (ns : List Named) → CanUnwind room r i
      → IsFit i → r.naming ≡ naming.Same
      → v.0 < length i.names
      → ns ≡ calling v.0 which n i.names → o ≡ count_of which (named i.names v.0).calls
      → s ≡ record { place = r.place; naming = naming.Called v which o; change = r.change }
      → Extended r s (record { image = i; room = room }) (record { image = record i { names = ns }; room = room })
  called r s i room v which n o ns can fit same within made count is =
      let was = named i.names v.0 in
      let new : Named = record { id = was.id; calls = with_count which n was.calls } in
      let here = named_set i.names v.0 new within in
      let back : Named → Named = λ q. record { id = q.id; calls = with_count which (count_of which was.calls) q.calls } in
      let again : back new ≡ was = ap (λ (c : Calls). (let z : Named = record { id = was.id; calls = c } in z)) (with_back which n was.calls) in
      let e : back (named (set i.names v.0 new) v.0) ≡ was = ap back here ∙ again in
      subst (λ q. Extended r s (record { image = i; room = room }) (record { image = record i { names = q }; room = room })) (sym made)
      (renamed r s i room (calling v.0 which n i.names) (naming.Called v which (count_of which was.calls)) can fit same
      (is ∙ ap (λ q. (let t : Record P = record { place = r.place; naming = naming.Called v which q; change = r.change } in t)) count)
      (omega (arith, within, length_set i.names v.0 new))
      (ap (λ q. record (standing r.place i) { names = q }) (names_back i.names v.0 new (back (named (set i.names v.0 new) v.0)) e)))

  -- a loop that was never run
  pub fresh_fit : (i : Image P) (slots last workers : ℕ) → i.arena ≡ arena.fresh_image Content slots last → i.running ≡ idle_workers workers
      → i.active ≡ 0
      → IsWork request_of (working (arena.fresh_image Content slots last) (idle_workers workers)) → IsFit i
  fresh_fit i slots last workers a r n work = record {
    counts = n ∙ ap (alive_count handle_of) (sym a);
    work = subst (λ z. IsWork request_of (working z i.running)) (sym a)
        (subst (λ z. IsWork request_of (working (arena.fresh_image Content slots last) z)) (sym r) work);
  }

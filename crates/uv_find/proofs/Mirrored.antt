-- A state in which one name and the next one have changed places: it is as regular, and a step goes as it does.
use Rattle.uv_find.proofs.Names.{◌≡◌, ℕ, ◌+◌, ◌<◌, ◌≤◌, ◌^◌, true, List, [], ◌∷◌, length, slice_get, nat_le, refl, ap, sym, subst, ◌∙◌, Option, Some, None, arith, map, option_map, unwrap_or, length-map, slice_get-map, Event, Id, Var, Program, arena_size, is_timer, held, Walk, HandleRecord, Named, Slot, Content, handle_in, Next, first_due, State, named, handle, front, with_id, IsTimer, IsTimed, IsInSlot, IsYoung, changed, changed_entry, changed_event, changed_line, changed_place, changed_walk, held_mapped, moved_var, moved_content, moved_slot, by_names, AreAlike, place_of, arranged_slots, name_in, IsTidy, vacancies, Fits, get_arranged, IsRegular, Due, CanBury, next_map}
use Rattle.uv_records.specs.Names as names
use Rattle.uv_work.specs.declared.content.Content.TheVariants as content
use Rattle.uv_model.specs.Next.{next}
use Rattle.uv_slots.specs.Buried.{is_past_by}
use Rattle.uv_find.proofs.Swap.{swap, swap_length, swap_order, twice_stays}

abbrev pub mirrored : ℕ → State → State
mirrored a s = record s {
  place = changed_place (by_names (swap a)) s.place;
  names = arranged_slots (swap a) s.names;
  arena = record s.arena { slots = map (moved_slot (swap a)) s.arena.slots };
}

abbrev pub mirrored_next : Program → ℕ → Next → Next
mirrored_next p a x = next_map (mirrored a) (changed_line (by_names (swap a)) p) x

-- where names that are alike have changed places, a step goes as it does
abbrev pub NamesChange : Type 0
NamesChange = (p : Program) (o : List ℕ) (s : State) (e : Event) → AreAlike p o s
    → next p (changed (by_names o) s) (changed_event (by_names o) e) ≡ next_map (changed (by_names o)) (changed_line (by_names o) p) (next p s e)

-- ---- it is the state changed

module _ (a : ℕ) where
  entries_same : (ts : List (Due × Id)) → map (changed_entry (by_names (swap a))) ts ≡ ts
  entries_same [] = refl
  entries_same (t ∷ ts) = ap (λ (xs : List (Due × Id)). t ∷ xs) (entries_same ts)

  ids_same : (xs : List Id) → map (λ (x : Id). x) xs ≡ xs
  ids_same [] = refl
  ids_same (x ∷ xs) = ap (λ (ys : List Id). x ∷ ys) (ids_same xs)

  walk_same : (w : Walk Id) → changed_walk (by_names (swap a)) w ≡ w
  walk_same w = λ i. record { list = ids_same w.list i; yet = ids_same w.yet i }

  changed_is : (s : State) → changed (by_names (swap a)) s ≡ mirrored a s
  changed_is s = simp (entries_same, ids_same, walk_same)

  pub next_mirrored : NamesChange → (p : Program) (s : State) (e : Event) → AreAlike p (swap a) s
      → next p (mirrored a s) (changed_event (by_names (swap a)) e) ≡ mirrored_next p a (next p s e)
  next_mirrored change p s e alike =
      ap (λ u. next p u (changed_event (by_names (swap a)) e)) (sym (changed_is s)) ∙ change p (swap a) s e alike
      ∙ (λ i. next_map (λ u. changed_is u i) (changed_line (by_names (swap a)) p) (next p s e))

  -- ---- what is read

  pub held_mirrored : (s : State) (id : Id) → held (mirrored a s).arena.slots id ≡ option_map (moved_content (swap a)) (held s.arena.slots id)
  held_mirrored s id = held_mapped (moved_content (swap a)) s.arena.slots id

  -- what was held
  was_held : (o : Option Content) (x : Content) → option_map (moved_content (swap a)) o ≡ Some x
      → (y : Content) × (o ≡ Some y) × (moved_content (swap a) y ≡ x)
  was_held o x e = grind arith

  pub held_was : (s : State) (id : Id) (x : Content) → held (mirrored a s).arena.slots id ≡ Some x
      → (y : Content) × (held s.arena.slots id ≡ Some y) × (moved_content (swap a) y ≡ x)
  held_was s id x e = was_held (held s.arena.slots id) x (sym (held_mirrored s id) ∙ e)

  abbrev moved_handle : HandleRecord → HandleRecord
  moved_handle h = record h { name = moved_var (swap a) h.name }

  handle_moved : (o : Option Content) → handle_in (option_map (moved_content (swap a)) o) ≡ option_map moved_handle (handle_in o)
  handle_moved None = refl
  handle_moved (Some (content.Handle h)) = refl
  handle_moved (Some (content.Request r)) = refl

  pub handle_mirrored : (s : State) (id : Id) → handle (mirrored a s) id ≡ option_map moved_handle (handle s id)
  handle_mirrored s id = ap handle_in (held_mirrored s id) ∙ handle_moved (held s.arena.slots id)

  was_handle : (o : Option HandleRecord) (h : HandleRecord) → option_map moved_handle o ≡ Some h
      → (g : HandleRecord) × (o ≡ Some g) × (moved_handle g ≡ h)
  was_handle o h e = grind arith

  handle_was : (s : State) (id : Id) (h : HandleRecord) → handle (mirrored a s) id ≡ Some h
      → (g : HandleRecord) × (handle s id ≡ Some g) × (moved_handle g ≡ h)
  handle_was s id h e = was_handle (handle s id) h (sym (handle_mirrored s id) ∙ e)

  module _ (s : State) (wide : a + 2 ≤ length s.names) where
    fits : Fits (swap a) s.names
    fits = record { order = swap_order a; within = (let long = swap_length a in omega (arith, wide, long)) }

    pub named_mirrored : (v : Var) → named (mirrored a s) (moved_var (swap a) v) ≡ named s v
    named_mirrored v = ap (λ x. unwrap_or x names.unbound) (get_arranged (swap a) s.names v.0 fits)

    pub named_was : (v : Var) → named (mirrored a s) v ≡ named s (moved_var (swap a) v)
    named_was v =
        let back : moved_var (swap a) (moved_var (swap a) v) ≡ v = λ i. record { 0 = twice_stays a v.0 i } in
        ap (named (mirrored a s)) (sym back) ∙ named_mirrored (moved_var (swap a) v)

    pub named_same : (v : Var) → place_of (swap a) v.0 ≡ v.0 → named (mirrored a s) v ≡ named s v
    named_same v stays = named_was v ∙ ap (λ n. named s (record { 0 = n })) stays

    -- ---- it is regular

    is_timer_of : (due : Due) (id : Id) → IsTimer s due id → IsTimer (mirrored a s) due id
    is_timer_of due id t = record {
      its = moved_handle t.its;
      holds = handle_mirrored s id ∙ ap (option_map moved_handle) t.holds;
      kind = t.kind;
      active = t.active;
      due = t.due;
    }

    was_timer : (due : Due) (id : Id) → IsTimer (mirrored a s) due id → IsTimer s due id
    was_timer due id t = grind (arith, handle_was)

    abbrev moved_pair : Id × HandleRecord → Id × HandleRecord
    moved_pair t = (t.0, moved_handle t.1)

    pair_moved : (id : Id) (o : Option HandleRecord) → with_id id (option_map moved_handle o) ≡ option_map moved_pair (with_id id o)
    pair_moved id o = grind arith

    front_mirrored : (ids : List Id) → front (mirrored a s) ids ≡ option_map moved_pair (front s ids)
    front_mirrored ids = grind (arith, with_id, handle_mirrored, pair_moved, handle)

    due_mirrored : (ts : List (Due × Id)) → first_due (mirrored a s) ts ≡ option_map moved_pair (first_due s ts)
    due_mirrored ts = grind (arith, nat_le, with_id, handle, option_map, handle_mirrored, pair_moved)

    was_pair : (o : Option (Id × HandleRecord)) (t : Id × HandleRecord) → option_map moved_pair o ≡ Some t
        → (u : Id × HandleRecord) × (o ≡ Some u) × (moved_pair u ≡ t)
    was_pair o t e = grind arith

    timed : (p : Program) → IsTimed p s → IsTimed p (mirrored a s)
    timed p h = record {
      timers = grind (arith, is_timer_of, was_timer);
      fits = record {
        starts = h.fits.starts;
        repeats = λ id g e. (let was = handle_was s id g e in
            subst (λ (x : HandleRecord). s.time + x.repeat < 2 ^ 64) was.2 (h.fits.repeats id was.0 was.1));
        ready = λ t e. (let was = was_pair (front s s.ready) t (sym (front_mirrored s.ready) ∙ e) in
            subst (λ (x : Id × HandleRecord). is_timer x.1.kind ≡ true) was.2 (h.fits.ready was.0 was.1));
        first = λ t e. (let was = was_pair (first_due s s.timers) t (sym (due_mirrored s.timers) ∙ e) in
            subst (λ (x : Id × HandleRecord). is_timer x.1.kind ≡ true) was.2 (h.fits.first was.0 was.1));
      };
    }

    in_slot : (id : Id) → IsInSlot s id → IsInSlot (mirrored a s) id
    in_slot id h = record { its = moved_content (swap a) h.its; holds = held_mirrored s id ∙ ap (option_map (moved_content (swap a))) h.holds }

    young : (p : Program) → IsYoung p s → IsYoung p (mirrored a s)
    young p h = grind (arith, in_slot, held_was)

    name_moved : (x : Content) → name_in (moved_content (swap a) x) ≡ moved_var (swap a) (name_in x)
    name_moved x = grind arith

    vacancies_same : (o : Option (Slot Content)) → vacancies (option_map (moved_slot (swap a)) o) ≡ vacancies o
    vacancies_same o = grind arith

    tidy : IsTidy s → IsTidy (mirrored a s)
    tidy h = record {
      bound = grind (arith, held_was, named, name_in, name_moved, named_mirrored);
      alone = λ v id x binds e. (let was = held_was s id x e in
          let name = h.alone (moved_var (swap a) v) id was.0 (sym (ap (λ (n : Named). n.id) (named_was v)) ∙ binds) was.1 in
          ap name_in (sym was.2) ∙ name_moved was.0 ∙ ap (moved_var (swap a)) name ∙ (λ i. record { 0 = twice_stays a v.0 i }));
      free = λ n. h.free n ∙ sym (ap vacancies (slice_get-map (moved_slot (swap a)) s.arena.slots n) ∙ vacancies_same (slice_get s.arena.slots n));
    }

    past_same : (id : Id) (o : Option (Slot Content))
        → is_past_by (mirrored a s).arena id (option_map (moved_slot (swap a)) o) ≡ is_past_by s.arena id o
    past_same id o = grind (arith, nat_le, length-map)

    buries : (dead : ℕ) → CanBury dead s → CanBury dead (mirrored a s)
    buries dead h = record {
      beyond = subst (λ n. n + s.arena.unused ≤ dead) (sym (length-map s.arena.slots (moved_slot (swap a)))) h.beyond;
      once = h.once;
      empty = λ id x e. (let was = held_was s id x e in h.empty id was.0 was.1);
      past = λ v id binds.
          ap (is_past_by (mirrored a s).arena id) (slice_get-map (moved_slot (swap a)) s.arena.slots id.slot)
          ∙ past_same id (slice_get s.arena.slots id.slot)
          ∙ h.past (moved_var (swap a) v) id (sym (ap (λ (n : Named). n.id) (named_was v)) ∙ binds);
    }

    pub mirrored_regular : (p : Program) → IsRegular p s → IsRegular p (mirrored a s)
    mirrored_regular p h = search (timed, young, tidy, buries, arena_size)

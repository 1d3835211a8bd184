-- Slots whose contents are changed, each by one function, under the same ids.
use Rattle.uv_alike.proofs.Names.{◌≡◌, ◌∙◌, ◌==◌, ℕ, ◌+◌, List, [], ◌∷◌, arith, refl, ap, sym, Option, Some, None, Id, Slot, Slots, Content, State, held, with_held, live_id, with_id, next_free, next_id, taken, taken_from, freed, map, option_map, length-map, map-append, map-set, slice_get-map}
use Rattle.uv_alike.proofs.Cases.{if_shift}
use Rattle.uv_alike.proofs.Same.{option_same}

module _ (f : Content → Content) where
  abbrev pub slot_of : Slot Content → Slot Content
  slot_of slot = record slot { content = option_map f slot.content }

  abbrev pub mapped : Slots Content → Slots Content
  mapped a = record a { slots = map slot_of a.slots }

  pub held_mapped : (slots : List (Slot Content)) (id : Id) → held (map slot_of slots) id ≡ option_map f (held slots id)
  held_mapped slots id = rw (slice_get-map slot_of slots id.slot) (grind arith)

  pub turns_mapped : (slots : List (Slot Content)) (id : Id) (x : Content) → with_held (map slot_of slots) id (f x)
      ≡ map slot_of (with_held slots id x)
  turns_mapped slots id x = sym (map-set slot_of slots id.slot _)

  next_mapped : (slots : List (Slot Content)) (unused : ℕ) (free : List ℕ) → next_id (map slot_of slots) unused free ≡ next_id slots unused free
  next_mapped slots unused free = grind (arith, length-map, slice_get-map)

  pub finds_mapped : (a : Slots Content) → next_free (mapped a) ≡ option_map (λ (x : Id). x) (next_free a)
  finds_mapped a = next_mapped a.slots a.unused a.free ∙ sym (option_same (λ (x : Id). x) (λ x. refl) (next_free a))

  taken_mapped : (free : List ℕ) (id : Id) (x : Content) (a : Slots Content) → taken_from free id (f x) (mapped a) ≡ mapped (taken_from free id x a)
  taken_mapped [] id x a = ap (λ slots. record (mapped a) { slots = slots; unused = (taken_from [] id x a).unused })
      (sym (map-append slot_of a.slots (record { generation = 0; content = Some x } ∷ [])))
  taken_mapped (n ∷ ns) id x a = ap (λ slots. record (mapped a) { slots = slots; free = ns }) (turns_mapped a.slots id x)

  pub takes_mapped : (id : Id) (x : Content) (a : Slots Content) → taken id (f x) (mapped a) ≡ mapped (taken id x a)
  takes_mapped id x a = taken_mapped a.free id x a

  pub frees_mapped : (last : ℕ) (id : Id) (a : Slots Content) → freed last id (mapped a) ≡ mapped (freed last id a)
  frees_mapped last id a = if_shift mapped (id.generation == last) (id.generation == last) _ _ _ _ refl
      (ap (λ slots. record (mapped a) { slots = slots })
      (sym (map-set slot_of a.slots id.slot (record { generation = id.generation; content = None }))))
      (ap (λ slots. record (mapped a) { slots = slots; free = id.slot ∷ a.free })
      (sym (map-set slot_of a.slots id.slot (record { generation = id.generation + 1; content = None }))))

  -- who is live, in a state with these slots
  with_mapped : (id : Id) (o : Option Content) → with_id id (option_map f o) ≡ option_map (λ (t : Id × Content). (t.0, f t.1)) (with_id id o)
  with_mapped id None = refl
  with_mapped id (Some x) = refl

  pub live_mapped : (s u : State) (o : Option Id) → u.arena.slots ≡ map slot_of s.arena.slots →
      live_id u o ≡ option_map (λ (t : Id × Content). (t.0, f t.1)) (live_id s o)
  live_mapped s u None same = refl
  live_mapped s u (Some id) same = ap (λ slots. with_id id (held slots id)) same ∙ ap (with_id id) (held_mapped s.arena.slots id)
      ∙ with_mapped id (held s.arena.slots id)

-- The front of a list leaves it, and its slot is freed: what the ids, the lists and the timers are then.
use Rattle.uv_sections.proofs.Names.{◌≡◌, ◌≢◌, ◌⊎◌, ℕ, zero, suc, ◌+◌, ◌==◌, Bool, true, false, if◌then◌else◌, eqb, List, [], ◌∷◌, map, set, slice_get, drop, None, inl, inr, refl, sym, ap, ◌∙◌, subst, eqb_tells, Id, Due, ListName, Slot, freed, without, IsFirst, plain_slots, held_slots, slot_at, Entry, id_in, listed_id, Place, State, members, IsTimer, Has, IsReached, Content, Image, StandsFor, timer_in, slot_or, slot_by, Listed, list_is, front_there}
use Rattle.uv_records.specs.Slots as plain
use Rattle.uv_arena.specs.Image as arena
use Rattle.uv_sections.proofs.Keeping.{SameTimers}

-- ---- slots

-- one slot is another one where a slot is freed
one_set : {X : Type 0} (last : ℕ) (d : Id) (a : plain.Slots X) → (t : Slot X) × ((freed last d a).slots ≡ set a.slots d.slot t)
one_set {X} last d a = at (d.generation == last) where
  at : (b : Bool) → (t : Slot X) × ((if b
      then record a { slots = set a.slots d.slot (record { generation = d.generation; content = None }) }
      else record a {
        slots = set a.slots d.slot (record { generation = d.generation + 1; content = None });
        free = d.slot ∷ a.free;
      }).slots ≡ set a.slots d.slot t)
  at true = (record { generation = d.generation; content = None }, refl)
  at false = (record { generation = d.generation + 1; content = None }, refl)

other_slot : {X : Type 0} (ss : List X) (n x : ℕ) (t : X) → x ≢ n → slice_get (set ss n t) x ≡ slice_get ss x
other_slot [] n x t ne = refl
other_slot (q ∷ ss) zero zero t ne = absurd (ne refl)
other_slot (q ∷ ss) zero (suc x) t ne = refl
other_slot (q ∷ ss) (suc n) zero t ne = refl
other_slot (q ∷ ss) (suc n) (suc x) t ne = other_slot ss n x t (λ e. ne (ap suc e))

-- ---- what is mapped alike except one slot

mapped_off : (f g : ℕ → Id) (n : ℕ) → ((x : ℕ) → x ≢ n → f x ≡ g x) → (xs : List ℕ) → map f (without eqb xs n) ≡ map g (without eqb xs n)
mapped_off f g n same [] = refl
mapped_off f g n same (x ∷ xs) = at (eqb_tells x n) (mapped_off f g n same xs) where
  at : ((eqb x n ≡ true) × (x ≡ n)) ⊎ ((eqb x n ≡ false) × (x ≢ n)) → map f (without eqb xs n) ≡ map g (without eqb xs n)
      → map f (without eqb (x ∷ xs) n) ≡ map g (without eqb (x ∷ xs) n)
  at (inl q) rest = rw q.0 rest
  at (inr q) rest = rw q.0 (let here = same x q.1 in λ l. here l ∷ rest l)

-- ---- the memory after it

module _ (i : Image Place) (s : State) (h : StandsFor i s) (k : arena.Image Content) (last : ℕ) (d : Id) (name : ListName)
    (first : IsFirst i.arena name d) (is : plain_slots k ≡ freed last d (plain_slots i.arena))
    (off : (l : ListName) → arena.members k l ≡ without eqb (arena.members i.arena l) d.slot) where
  pub freed_slots : plain_slots k ≡ freed last d s.arena
  freed_slots = is ∙ ap (freed last d) h.slots

  freed_ids : (x : ℕ) → x ≢ d.slot → id_in k x ≡ id_in i.arena x
  freed_ids x ne =
      let one = one_set last d (plain_slots i.arena) in
      let slots : held_slots k.memory ≡ set (held_slots i.arena.memory) d.slot one.0 = ap (λ (q : plain.Slots Content). q.slots) is ∙ one.1 in
      let here : (slot_at k.memory x).generation ≡ (slot_at i.arena.memory x).generation =
      ap (λ (z : Slot Content). z.generation) (slot_by k.memory.row.items x)
      ∙ ap (λ ss. (slot_or (slice_get ss x)).generation) slots
      ∙ ap (λ o. (slot_or o).generation) (other_slot (held_slots i.arena.memory) d.slot x one.0 ne)
      ∙ ap (λ (z : Slot Content). z.generation) (sym (slot_by i.arena.memory.row.items x)) in
      λ l. record { slot = x; generation = here l }

  -- what is left of a list, with the ids from before and from then
  left : (l : ListName) → map (id_in i.arena) (without eqb (arena.members i.arena l) d.slot) ≡ map (id_in k) (arena.members k l)
  left l = sym (mapped_off (id_in k) (id_in i.arena) d.slot freed_ids (arena.members i.arena l)) ∙ ap (map (id_in k)) (sym (off l))

  module _ (t : State) (others : (l : ListName) → l ≢ name → members t l ≡ members s l) (here : members t name ≡ drop 1 (members s name)) where
    front_list : Listed k t name
    front_list =
        here
        ∙ ap (drop 1) (front_there i s name d h first)
        ∙ ap (map (id_in i.arena)) (sym first.after)
        ∙ left name

    other_list : (l : ListName) → l ≢ name → Listed k t l
    other_list l ne = others l ne ∙ h.lists l ∙ ap (map (id_in i.arena)) (sym (first.others l ne)) ∙ left l

    pub freed_lists : (l : ListName) → Listed k t l
    freed_lists l = elim (list_is l name) [
      | inl e ↦ subst (λ x. Listed k t x) (sym e) front_list
      | inr ne ↦ other_list l ne
    ]

  module _ (reached : IsReached s) (none : (due : Due) → IsTimer s due d → ⊥) where
    timers_off : (xs : List Entry) → ((due : Due) (id : Id) → Has (map (timer_in i.arena) xs) due id → IsTimer s due id)
        → map (timer_in k) xs ≡ map (timer_in i.arena) xs
    timers_off [] each = refl
    timers_off (e ∷ es) each =
        let apart : e.slot ≢ d.slot = λ same. none e.due (subst (λ z. IsTimer s e.due z)
        (ap (id_in i.arena) same ∙ listed_id i.arena d first.listed.held) (each e.due (id_in i.arena e.slot) (inl (refl, refl)))) in
        let here = freed_ids e.slot apart in
        let rest = timers_off es (λ due id has. each due id (inr has)) in
        λ l. (e.due, here l) ∷ rest l

    pub freed_timers : SameTimers i.arena k s.timers
    freed_timers xs same = timers_off xs (λ due id has. reached.timers.each due id (subst (λ ts. Has ts due id) (sym same) has))

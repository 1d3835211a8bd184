-- The lists of a state and of the memory that stands for it, where all but one or two of them stay.
use Rattle.uv_stands.proofs.ProofNames.{◌≡◌, ◌≢◌, ◌⊎◌, inl, inr, ℕ, Bool, List, map, Option, sym, ap, ◌∙◌, subst, eqb_tells, Id, Due, ListName, number, number_apart, id_in, Named, Place, State, members, Content, Image, StandsFor}
use Rattle.uv_records.specs.Slots as plain
use Rattle.uv_arena.specs.Image as arena
use Rattle.uv_stands.proofs.Holding.{map_same}

-- what is no list leaves the lists
pub beside_lists : (s : State) (place : Place) (names : List Named) (a : plain.Slots Content) (timers : List (Due × Id))
    (running : List (Option Id)) (time clock next : ℕ) (stop idled : Bool) (l : ListName)
    → members (record s {
      place = place;
      names = names;
      arena = a;
      timers = timers;
      running = running;
      time = time;
      clock = clock;
      next_start = next;
      stop_flag = stop;
      idled = idled;
    }) l ≡ members s l
beside_lists s place names a timers running time clock next stop idled l = assumption

-- a list is this one, or another
pub list_is : (l a : ListName) → (l ≡ a) ⊎ (l ≢ a)
list_is l a = elim (eqb_tells (number l) (number a)) [
  | inl q ↦ inl (number_apart l a q.1)
  | inr q ↦ inr (λ e. q.1 (ap number e))
]

-- a list of the state is that of the memory
abbrev pub Listed : arena.Image Content → State → ListName → Type 0
Listed k t l = members t l ≡ map (id_in k) (arena.members k l)

module _ (i : Image Place) (s : State) (h : StandsFor i s) (k : arena.Image Content) (t : State) where
  -- a list that stays, in the memory and in the state, each of whose ids stays
  pub list_stays : (l : ListName) → ((x : ℕ) → id_in k x ≡ id_in i.arena x) → arena.members k l ≡ arena.members i.arena l
      → members t l ≡ members s l → Listed k t l
  list_stays l ids stays same =
      same ∙ h.lists l ∙ sym (map_same (id_in k) (id_in i.arena) ids (arena.members i.arena l)) ∙ ap (map (id_in k)) (sym stays)

  module _ (ids : (x : ℕ) → id_in k x ≡ id_in i.arena x) where
    -- all lists but one stay
    pub all_but_one : (a : ListName) → ((l : ListName) → l ≢ a → arena.members k l ≡ arena.members i.arena l)
        → ((l : ListName) → l ≢ a → members t l ≡ members s l) → Listed k t a → (l : ListName) → Listed k t l
    all_but_one a stays same here l = elim (list_is l a) [
      | inl e ↦ subst (λ x. Listed k t x) (sym e) here
      | inr ne ↦ list_stays l ids (stays l ne) (same l ne)
    ]

    -- all but two
    pub all_but_two : (a b : ListName) → ((l : ListName) → l ≢ a → l ≢ b → arena.members k l ≡ arena.members i.arena l)
        → ((l : ListName) → l ≢ a → l ≢ b → members t l ≡ members s l) → Listed k t a → Listed k t b → (l : ListName) → Listed k t l
    all_but_two a b stays same here there l = elim (list_is l a) [
      | inl e ↦ subst (λ x. Listed k t x) (sym e) here
      | inr ne ↦ elim (list_is l b) [
        | inl e ↦ subst (λ x. Listed k t x) (sym e) there
        | inr other ↦ list_stays l ids (stays l ne other) (same l ne other)
      ]
    ]

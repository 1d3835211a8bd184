-- What the memory holds is what the state holds, and ids stay where another content is set.
use Rattle.uv_stands.proofs.ProofNames.{◌≡◌, ℕ, zero, suc, List, [], ◌∷◌, map, set, slice_get, Option, Some, None, option_and_then, refl, sym, ap, ◌∙◌, Id, Var, Slot, Cell, plain_slots, held_slots, slot_at, slot_in, get-slots, held_tells, record_at, handle_of, id_in, Place, State, handle, Content, named, Image, StandsFor}
use Rattle.uv_records.specs.Slots as plain
use Rattle.uv_arena.specs.Image as arena
use Rattle.uv_model.specs.State as state
use Rattle.uv_stands.proofs.Single.{names_is}

-- ---- what is held

-- what is held under an id in the memory is what the state holds there
pub held_there : (i : Image Place) (s : State) (d : Id) → StandsFor i s → arena.held i.arena d ≡ plain.held s.arena.slots d
held_there i s d h = ap (λ (q : plain.Slots Content). plain.held q.slots d) h.slots

-- the handle of an id is the state's
pub state_handle : (i : Image Place) (s : State) (d : Id) → StandsFor i s → handle s d ≡ record_at handle_of i.arena d
state_handle i s d h = ap (option_and_then handle_of) (sym (held_there i s d h))

-- a slot holds something else, in the memory and in the state
pub slots_set : (i : Image Place) (s : State) (k : arena.Image Content) (d : Id) (v : Content) → StandsFor i s
    → plain_slots k ≡ record (plain_slots i.arena) { slots = plain.with_held (plain_slots i.arena).slots d v }
    → plain_slots k ≡ record s.arena { slots = plain.with_held s.arena.slots d v }
slots_set i s k d v h set = cc

-- what a name is bound to
pub bound_there : (i : Image Place) (s : State) (v : Var) → StandsFor i s → (named i.names v.0).id ≡ (state.named s v).id
bound_there i s v h = ap (λ ns. (named ns v.0).id) (names_is h)

-- ---- ids

abbrev pub slot_or : {X : Type 0} → Option (Slot X) → Slot X
slot_or None = record { generation = 0; content = None }
slot_or (Some t) = t

pub slot_by : {X : Type 0} (cs : List (Cell X)) (x : ℕ) → slot_in (slice_get cs x) ≡ slot_or (slice_get (map (λ (c : Cell X). c.slot) cs) x)
slot_by (c ∷ cs) (suc x) = slot_by cs x
slot_by each e1 = assumption

-- a slot that holds something else keeps its generation
pub generation_kept : {X : Type 0} (ss : List (Slot X)) (n x : ℕ) (t : Slot X)
    → ((q : Slot X) → slice_get ss n ≡ Some q → q.generation ≡ t.generation)
    → (slot_or (slice_get (set ss n t) x)).generation ≡ (slot_or (slice_get ss x)).generation
generation_kept [] n x t h = refl
generation_kept (q ∷ ss) zero zero t h = sym (h q refl)
generation_kept (q ∷ ss) zero (suc x) t h = refl
generation_kept (q ∷ ss) (suc n) zero t h = refl
generation_kept (q ∷ ss) (suc n) (suc x) t h = generation_kept ss n x t h

module _ (i k : arena.Image Content) (d : Id) (v was : Content) (there : arena.held i d ≡ Some was)
    (same : plain_slots k ≡ record (plain_slots i) { slots = plain.with_held (plain_slots i).slots d v }) where
  generation_is : (q : Slot Content) → slice_get (held_slots i.memory) d.slot ≡ Some q → q.generation ≡ d.generation
  generation_is q e =
      let t = held_tells i.memory d was there in
      let at = get-slots i.memory.row.items d.slot t.0 t.1 in
      let one : q ≡ t.0.slot = cc (e, at) in
      ap (λ (z : Slot Content). z.generation) one ∙ t.3

  -- each slot's id is as it was
  pub ids_kept : (x : ℕ) → id_in k x ≡ id_in i x
  ids_kept x =
      let new : Slot Content = record { generation = d.generation; content = Some v } in
      let slots : held_slots k.memory ≡ set (held_slots i.memory) d.slot new = ap (λ (q : plain.Slots Content). q.slots) same in
      let here : (slot_at k.memory x).generation ≡ (slot_at i.memory x).generation =
      ap (λ (z : Slot Content). z.generation) (slot_by k.memory.row.items x)
      ∙ ap (λ ss. (slot_or (slice_get ss x)).generation) slots
      ∙ generation_kept (held_slots i.memory) d.slot x new generation_is
      ∙ ap (λ (z : Slot Content). z.generation) (sym (slot_by i.memory.row.items x)) in
      λ l. record { slot = x; generation = here l }

pub map_same : {A B : Type 0} (f g : A → B) → ((x : A) → f x ≡ g x) → (xs : List A) → map f xs ≡ map g xs
map_same f g h [] = refl
map_same f g h (x ∷ xs) = let here = h x in let rest = map_same f g h xs in λ l. here l ∷ rest l

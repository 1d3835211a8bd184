-- The slots of a state that are relabeled, what its ids hold, its names, and the first timer.
use Rattle.uv_slots.proofs.Names.{◌≡◌, List, [], ◌∷◌, Option, Some, None, refl, ap, ◌∙◌, nat_le, Id, Var, Due, State, named, handle, live, live_id, front, with_id, handle_in, held, Named, unbound, slice_get-map, map, option_map, unwrap_or, first_due, Labels, relabeled, relabeled_named, relabeled_entry}
use Rattle.uv_alike.proofs.Cases.{if_shift}

module _ (o : Labels) where
  -- ---- an id with what it stands for

  abbrev pub relabeled_pair : {X : Type 0} → Id × X → Id × X
  relabeled_pair t = (o.id t.0, t.1)

  with_id_relabeled : {X : Type 0} (id : Id) (y : Option X) → with_id (o.id id) y ≡ option_map relabeled_pair (with_id id y)
  with_id_relabeled id None = refl
  with_id_relabeled id (Some x) = refl

  -- ---- names

  name_of : (x : Option Named) → unwrap_or (option_map (relabeled_named o) x) unbound ≡ relabeled_named o (unwrap_or x unbound)
  name_of None = refl
  name_of (Some n) = refl

  pub named_relabeled : (s : State) (v : Var) → named (relabeled o s) v ≡ relabeled_named o (named s v)
  named_relabeled s v = simp (slice_get-map, name_of)

  -- ---- what ids hold

  module _ (s : State) (holds : (x : Id) → held (o.slots s.arena.slots) (o.id x) ≡ held s.arena.slots x) where
    pub handle_relabeled : (id : Id) → handle (relabeled o s) (o.id id) ≡ handle s id
    handle_relabeled id = ap handle_in (holds id)

    pub front_relabeled : (ids : List Id) → front (relabeled o s) (map o.id ids) ≡ option_map relabeled_pair (front s ids)
    front_relabeled [] = refl
    front_relabeled (id ∷ ids) = ap (with_id (o.id id)) (handle_relabeled id) ∙ with_id_relabeled id (handle s id)

    live_id_relabeled : (x : Option Id) → live_id (relabeled o s) (option_map o.id x) ≡ option_map relabeled_pair (live_id s x)
    live_id_relabeled None = refl
    live_id_relabeled (Some id) = ap (with_id (o.id id)) (holds id) ∙ with_id_relabeled id (held s.arena.slots id)

    pub live_relabeled : (v : Var) → live (relabeled o s) v ≡ option_map relabeled_pair (live s v)
    live_relabeled v = ap (λ (n : Named). live_id (relabeled o s) n.id) (named_relabeled s v) ∙ live_id_relabeled (named s v).id

    pub first_due_relabeled : (ts : List (Due × Id)) →
        first_due (relabeled o s) (map (relabeled_entry o) ts) ≡ option_map relabeled_pair (first_due s ts)
    first_due_relabeled [] = refl
    first_due_relabeled (t ∷ ts) = if_shift (option_map relabeled_pair) (nat_le t.0.at s.time) (nat_le t.0.at s.time) _ _ _ _
        refl (ap (with_id (o.id t.1)) (handle_relabeled t.1) ∙ with_id_relabeled t.1 (handle s t.1)) refl

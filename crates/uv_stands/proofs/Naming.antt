-- What a name is bound to and how often it was called, in the memory and in the state.
use Rattle.uv_stands.proofs.ProofNames.{◌≡◌, false, Option, Some, None, Ok, Err, is_some, option_map, refl, sym, ap, ◌∙◌, Id, Var, Code, HandleRecord, refusal, content_is, found, record_at, Place, State, with_id, as_handle, live, live_handle, live_id, Content, handle_of, only_handle, named, Image, StandsFor}
use Rattle.uv_ids.specs.declared.code.Code.TheVariants as code
use Rattle.uv_records.specs.Slots as plain
use Rattle.uv_arena.specs.Image as arena
use Rattle.uv_work.specs.declared.content.Content.TheVariants as holds
use Rattle.uv_stands.proofs.Holding.{held_there, bound_there}

-- ---- what is live

pub live_by : (i : Image Place) (s : State) (v : Var) (o : Option Id) → StandsFor i s → o ≡ (named i.names v.0).id → live s v ≡ live_id s o
live_by i s v o h e = ap (λ (z : Option Id). live_id s z) (sym (e ∙ bound_there i s v h))

refused_as : (d : Id) (o : Option Content) (c : Code)
    → ((why : HandleRecord → Option Code) → refusal why (option_map handle_of o) ≡ Some c) → as_handle (with_id d o) ≡ Err c
refused_as d None c e = let q : code.Estale ≡ c = cc (e (λ h. None)) in ap Err q
refused_as d (Some (holds.Request r)) c e = let q : code.Ekind ≡ c = cc (e (λ h. None)) in ap Err q
refused_as d (Some (holds.Handle h)) c e = let q = e (λ h. None) in cc

-- the handle that is held under an id is the state's
pub record_there : (i : Image Place) (s : State) (d : Id) (h : HandleRecord) → StandsFor i s → record_at handle_of i.arena d ≡ Some h
    → plain.held s.arena.slots d ≡ Some (holds.Handle h)
record_there i s d h st e = sym (held_there i s d st) ∙ content_is handle_of holds.Handle only_handle i.arena d h e

module _ (i : Image Place) (s : State) (v : Var) (h : StandsFor i s) where
  pub no_handle : (d : Id) (c : Code) → Some d ≡ (named i.names v.0).id
      → ((why : HandleRecord → Option Code) → refusal why (found handle_of i.arena d) ≡ Some c) → live_handle s v ≡ Err c
  no_handle d c e r =
      ap as_handle (live_by i s v (Some d) h e)
      ∙ refused_as d (plain.held s.arena.slots d) c
      (λ why. ap (λ o. refusal why (option_map handle_of o)) (sym (held_there i s d h)) ∙ r why)

  pub some_handle : (d : Id) (r : HandleRecord) → Some d ≡ (named i.names v.0).id → record_at handle_of i.arena d ≡ Some r
      → live_handle s v ≡ Ok (d, r)
  some_handle d r e there =
      ap as_handle (live_by i s v (Some d) h e) ∙ ap (λ o. as_handle (with_id d o)) (record_there i s d r h there)

  pub bound_live : (d : Id) → Some d ≡ (named i.names v.0).id → is_some (live s v) ≡ is_some (arena.held i.arena d)
  bound_live d e =
      ap (λ (o : Option (Id × Content)). is_some o) (live_by i s v (Some d) h e)
      ∙ with_some d (plain.held s.arena.slots d)
      ∙ ap (λ (o : Option Content). is_some o) (sym (held_there i s d h)) where
        with_some : (d : Id) (o : Option Content) → is_some (with_id d o) ≡ is_some o
        with_some d None = refl
        with_some d (Some c) = refl

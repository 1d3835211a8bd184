-- The front of a list, in the memory and in the state.
use Rattle.uv_sections.proofs.Names.{◌≡◌, [], map, Option, None, inl, inr, ap, ◌∙◌, Id, HandleRecord, ListName, IsFirst, record_at, id_in, Place, State, with_id, front, front_request, members, handle_of, NoHandleFirst, Image, StandsFor, state_handle, front_there}
use Rattle.uv_arena.specs.Image as arena

module _ (i : Image Place) (s : State) (h : StandsFor i s) (l : ListName) where
  pub none_asked : arena.members i.arena l ≡ [] → front_request s (members s l) ≡ None
  none_asked e = ap (front_request s) (h.lists l ∙ ap (map (id_in i.arena)) e)

  pub front_is : (d : Id) (o : Option HandleRecord) → IsFirst i.arena l d → record_at handle_of i.arena d ≡ o → front s (members s l) ≡ with_id d o
  front_is d o first e = ap (front s) (front_there i s l d h first) ∙ ap (with_id d) (state_handle i s d h ∙ e)

  -- it is empty, or its front is no handle
  pub none_first : NoHandleFirst i.arena l → front s (members s l) ≡ None
  none_first (inl e) = ap (front s) (h.lists l ∙ ap (map (id_in i.arena)) e)
  none_first (inr f) = front_is f.0 None f.1 f.2

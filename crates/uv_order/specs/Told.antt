-- What lines tell of the handles that a state has: each was made under its name; it closes just where a `close` of it was accepted; it is
-- active, or set aside to be called, just where it was started and not stopped since, as a timer or not, with its repeat.
use Rattle.std.specs.Prelude.{◌≡◌, ◌||◌, List, [], ◌∷◌, Some}
use Rattle.uv_ids.specs.declared.id.Id.{Id}
use Rattle.uv_ids.specs.declared.seen.Seen.{Seen}
use Rattle.uv_records.specs.Handles.{is_timer}
use Rattle.uv_records.specs.declared.handle.HandleRecord.{HandleRecord}
use Rattle.uv_script.specs.Program.{Program}
use Rattle.uv_model.specs.State.{State, handle}
use Rattle.uv_order.specs.Active.{has_id}
use Rattle.uv_order.specs.Once.{made_as, was_closed, activity}

-- these lines behind those, the last one first
abbrev pub onto : List Seen → List Seen → List Seen
onto past [] = past
onto past (l ∷ ls) = onto (l ∷ past) ls

-- a handle is what the lines tell of it
pub record IsTold (p : Program) (past : List Seen) (s : State) (id : Id) (h : HandleRecord) : Type 0 where
  pub made : made_as p past id ≡ Some h.name
  pub closed : was_closed p past id ≡ h.closing
  pub active : activity p past id ≡ record { timer = is_timer h.kind; repeat = h.repeat; started = has_id s.ready id || h.active }

abbrev pub AreTold : Program → List Seen → State → Type 0
AreTold p ls s = (id : Id) (h : HandleRecord) → handle s id ≡ Some h → IsTold p (onto [] ls) s id h

-- The front of those that a section has yet to run, which moves to the end of its list: what the old memory and the new one stand for.
use Rattle.std.specs.Prelude.{◌≡◌, Bool, true, false, Some}
use Rattle.uv_ids.specs.declared.id.Id.{Id}
use Rattle.uv_ids.specs.declared.id.Var.{Var}
use Rattle.uv_records.specs.declared.handle.HandleRecord.{HandleRecord}
use Rattle.uv_records.specs.declared.lists.WatcherKind.{WatcherKind}
use Rattle.uv_records.specs.Handles.{woken}
use Rattle.uv_handle.specs.Watch.{pending_of}
use Rattle.uv_model.specs.declared.place.Place.{Place}
use Rattle.uv_model.specs.State.{State, front, watched, with_handle}
use Rattle.uv_model.specs.Next.{front_moved}
use Rattle.uv_memory.specs.Image.{Image}
use Rattle.uv_stands.specs.Stands.{StandsFor}

-- one that a callback was pending of isn't pending any more
abbrev pub moved_state : Bool → State → WatcherKind → Id → HandleRecord → State
moved_state true s kind id r = with_handle (front_moved s kind id) id (woken r)
moved_state false s kind id r = front_moved s kind id

pub record HandleMoved (kind : WatcherKind) (new : Image Place) (s : State) (id : Id) (r : HandleRecord) (pending : Bool) : Type 0 where
  pub front : front s (watched s kind).yet ≡ Some (id, r)
  pub was : pending ≡ pending_of kind (Some r)
  pub stands : StandsFor new (moved_state pending s kind id r)

-- so did one of this name
pub record NamedMoved (kind : WatcherKind) (new : Image Place) (s : State) (id : Id) (v : Var) (pending : Bool) : Type 0 where
  pub handle : HandleRecord
  pub name : handle.name ≡ v
  pub moved : HandleMoved kind new s id handle pending

-- The row of the steps that stand.
use Rattle.std.specs.Prelude.{◌≡◌, ◌≤◌, ◌++◌, List, [], ◌∷◌, map, Option, Some}
use Rattle.uv_ids.specs.declared.event.Event.{Event}
use Rattle.uv_ids.specs.declared.event.Event.TheVariants.{Loop, Take, Finish, Cancel, Send, Io, Tick}
use Rattle.uv_ids.specs.declared.seen.Seen.{Seen}
use Rattle.uv_ids.specs.declared.seen.Seen.TheVariants as seen
use Rattle.uv_model.specs.declared.place.Place.{Place}
use Rattle.uv_memory.specs.Record.{Record}
use Rattle.uv_memory.specs.Image.{Held}
use Rattle.uv_loop.specs.Standing.{Standing}

-- the event of the step that appended this: a line from outside names its own, and all else is of the loop
abbrev pub event_of : Option Seen → Event
event_of (Some (seen.Take worker name id)) = Take worker
event_of (Some (seen.Finish worker name id)) = Finish worker
event_of (Some (seen.Cancel name answer)) = Cancel name
event_of (Some (seen.Send name code)) = Send name
event_of (Some (seen.Io name id)) = Io name
event_of (Some (seen.Tick ms)) = Tick ms
event_of other = Loop

abbrev pub events_of : List (Option Seen) → List Event
events_of lines = map event_of lines

-- the same steps
pub record AreSame (old new : Standing) : Type 0 where
  pub seen : new.seen.items ≡ old.seen.items
  pub records : new.trail.records ≡ old.trail.records

-- the same steps and the same memory, where there may be more room on its heap
pub record AreRoomier (old new : Standing) (h k : Held Place) : Type 0 where
  pub steps : AreSame old new
  pub image : k.image ≡ h.image
  pub room : h.room ≤ k.room

-- one step more
pub record IsOneMore (old new : Standing) (line : Option Seen) (step_record : Record Place) : Type 0 where
  pub seen : new.seen.items ≡ old.seen.items ++ line ∷ []
  pub records : new.trail.records ≡ old.trail.records ++ step_record ∷ []

-- What comes from outside: which event a line tells, and when one may be refused.
use Rattle.std.specs.Prelude.{◌≡◌, ◌+◌, ◌<◌, ◌≤◌, Option, Some, length}
use Rattle.uv_ids.specs.declared.event.Event.{Event}
use Rattle.uv_ids.specs.declared.event.Event.TheVariants.{Loop, Take, Finish, Cancel, Send, Io, Tick}
use Rattle.uv_ids.specs.declared.seen.Seen.{Seen}
use Rattle.uv_ids.specs.declared.seen.Seen.TheVariants as seen
use Rattle.uv_model.specs.Limits.{LATEST}
use Rattle.uv_model.specs.State.{State}
use Rattle.uv_model.specs.Next.{Next, Moves, Refuses}

-- the event of the step that appended this: a line from outside tells its own, and all else is of the loop
abbrev pub event_of : Option Seen → Event
event_of (Some (seen.Take worker name id)) = Take worker
event_of (Some (seen.Finish worker name id)) = Finish worker
event_of (Some (seen.Cancel name answer)) = Cancel name
event_of (Some (seen.Send name code)) = Send name
event_of (Some (seen.Io name id)) = Io name
event_of (Some (seen.Tick ms)) = Tick ms
event_of other = Loop

-- a tick is refused past the clock's limit alone, and a send and a cancel of a name that there isn't
abbrev pub MayRefuse : State → Event → Type 0
MayRefuse s (Tick ms) = LATEST < s.clock + ms
MayRefuse s (Send v) = length s.names ≤ v.0
MayRefuse s (Cancel v) = length s.names ≤ v.0
MayRefuse s e = Unit {0}

-- the step of an event is its own, by its line, or is refused where it may be
abbrev pub SaysEvent : State → Event → Next → Type 0
SaysEvent s e (Moves t line) = event_of line ≡ e
SaysEvent s e (Refuses why) = MayRefuse s e
